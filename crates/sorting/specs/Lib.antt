pub mod Sorting
pub mod Passing
