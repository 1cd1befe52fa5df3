pub mod Words
pub mod Walk
pub mod Told
