pub mod Parts
pub mod Chains
pub mod Passing
