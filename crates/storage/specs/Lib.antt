pub mod Stored
pub mod Sorted
pub mod Putting
