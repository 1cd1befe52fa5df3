pub mod Typed
pub mod Seeking
