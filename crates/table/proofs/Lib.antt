pub mod Paths
pub mod Computed
pub mod Afters
pub mod Splits
pub mod Splices
pub mod Walks
pub mod Unlinks
pub mod Edges
