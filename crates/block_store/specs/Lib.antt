pub mod Lists
pub mod Cuts
pub mod Locates
pub mod Gaps
pub mod Inserts
pub mod Removes
