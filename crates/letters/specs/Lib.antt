pub mod Choice
pub mod Letters
pub mod Kinds
pub mod Marks
pub mod Weights
pub mod Counting
