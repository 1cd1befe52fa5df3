pub mod Admission
pub mod Normal
pub mod Form
pub mod Typed
