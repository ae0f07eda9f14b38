pub mod Buffers
pub mod Fields
pub mod Leb128
pub mod Reading
pub mod Told
