pub mod Meaning
pub mod Sides
