pub mod Walk
pub mod Telling
pub mod Told
