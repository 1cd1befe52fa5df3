pub mod Words
pub mod Sorting
pub mod Passing
pub mod Seeking
pub mod Laws
pub mod InTurn
