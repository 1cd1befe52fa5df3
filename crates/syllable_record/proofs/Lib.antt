pub mod Bytes
pub mod Places
pub mod Parts
pub mod Decoded
