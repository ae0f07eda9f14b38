mod FirstLaws
mod FlagLaws
pub mod FormLaws
pub mod NameLaws
mod SoundLaws
mod StayLaws
