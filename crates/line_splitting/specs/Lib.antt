pub mod Lines
pub mod Taken
pub mod Following
