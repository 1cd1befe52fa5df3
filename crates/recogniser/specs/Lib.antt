pub mod Answer
pub mod Earlier
pub mod Walked
pub mod Concluded
