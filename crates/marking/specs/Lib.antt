pub mod Faces
pub mod Strikes
