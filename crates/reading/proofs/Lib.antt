pub mod Passing
pub mod Recorded
pub mod Parted
pub mod Joined
pub mod Determined
pub mod Told
