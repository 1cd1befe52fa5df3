pub mod Text
pub mod Elements
