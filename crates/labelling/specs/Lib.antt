pub mod Labelling
pub mod Putting
