pub mod FieldLaws
pub mod Leb128Laws
pub mod PartLaws
pub mod ReadLaws
pub mod ToldLaws
