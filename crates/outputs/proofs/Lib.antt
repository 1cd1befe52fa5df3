pub mod Sizes
mod Decoding
mod Recording
mod Keying
pub mod Determined
