pub mod Closing
pub mod Cleared
