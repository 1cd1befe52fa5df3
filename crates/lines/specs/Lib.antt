pub mod Line
pub mod Three
