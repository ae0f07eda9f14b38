pub mod Shapes
pub mod Insides
pub mod Gaps
pub mod Inserts
pub mod Removes
