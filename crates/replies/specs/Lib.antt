pub mod Blocks
pub mod Calls
pub mod Refusals
pub mod Sets
