pub mod Verdicts
pub mod Recipes
pub mod Packed
