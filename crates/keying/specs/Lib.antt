pub mod Filling
pub mod Filled
