pub mod Answers
pub mod Laws
pub mod Words
pub mod Tidied
