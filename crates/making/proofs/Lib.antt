pub mod Appending
pub mod Units
