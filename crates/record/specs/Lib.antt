pub mod Cursor
pub mod Decoding
pub mod Flagged
pub mod Format
pub mod Forms
pub mod Names
pub mod Settled
pub mod Told
