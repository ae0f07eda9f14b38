pub mod Cells
pub mod Cuts
pub mod Puts
pub mod Lookups
pub mod Clears
pub mod Gaps
pub mod Walks
