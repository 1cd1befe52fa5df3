pub mod Rank
pub mod Whole
