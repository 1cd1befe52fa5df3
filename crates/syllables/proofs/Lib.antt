pub mod Parted
pub mod Moved
