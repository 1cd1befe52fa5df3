pub mod Plans
pub mod Behind
pub mod Told
