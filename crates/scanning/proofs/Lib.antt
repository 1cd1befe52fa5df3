pub mod Reach
pub mod Stopped
