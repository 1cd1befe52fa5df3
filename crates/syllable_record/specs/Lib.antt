pub mod Decode
pub mod Record
