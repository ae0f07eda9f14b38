pub mod Clients
pub mod FixedLists
pub mod Links
pub mod Name
pub mod Names
pub mod Places
