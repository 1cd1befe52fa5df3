pub mod Refusal
pub mod Outcome
pub mod Output
pub mod Pair
