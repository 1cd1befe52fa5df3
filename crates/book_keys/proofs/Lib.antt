pub mod Rows
pub mod Words
pub mod Live
pub mod Collecting
