pub mod Asked
pub mod Calls
pub mod Contents
pub mod Lines
pub mod Parts
