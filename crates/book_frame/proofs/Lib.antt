pub mod Framing
pub mod Marks
pub mod Parts
