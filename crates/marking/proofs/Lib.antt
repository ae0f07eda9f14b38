pub mod Faces
pub mod Marks
pub mod Unions
pub mod Strikes
pub mod Samples
