pub mod Keyed
pub mod Comparison
