pub mod Sides
pub mod Wanted
