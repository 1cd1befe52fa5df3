pub mod Copied
pub mod Stores
pub mod Putting
