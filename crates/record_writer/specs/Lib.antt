pub mod Encoding
pub mod Told
