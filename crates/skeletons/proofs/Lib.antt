pub mod Replacing
pub mod Filling
pub mod Laws
pub mod Longest
