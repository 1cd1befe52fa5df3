pub mod InOrder
pub mod Laws
pub mod Answers
pub mod Whole
pub mod Tidied
