pub mod Machine
pub mod Begin
