pub mod Sound
pub mod Complete
pub mod Viable
pub mod Begin
pub mod Admitted
pub mod Earlier
pub mod Heads
