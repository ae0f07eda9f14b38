pub mod Meaning
pub mod Lawful
pub mod Runs
pub mod Either
pub mod Pieces
pub mod RunsLemmas
