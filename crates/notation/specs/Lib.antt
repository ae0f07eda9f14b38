pub mod Hex
pub mod Numerals
pub mod Words
