pub mod Views
pub mod Cuts
pub mod Gaps
pub mod Inserts
pub mod Removes
pub mod Ids
