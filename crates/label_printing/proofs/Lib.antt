pub mod Labels
pub mod Determined
