pub mod Lists
pub mod Held
pub mod Words
pub mod Classes
pub mod Pieces
pub mod Records
pub mod Filtered
pub mod Weighing
