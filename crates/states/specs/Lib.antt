pub mod State
pub mod Transition
