pub mod Tested
pub mod Known
pub mod Marked
pub mod Closing
pub mod Followed
pub mod Lengths
