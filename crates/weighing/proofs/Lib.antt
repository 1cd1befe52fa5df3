pub mod Lexicographic
pub mod OrderOfNumbers
pub mod Passing
pub mod Front
pub mod Laws
pub mod Prefix
pub mod Earlier
pub mod Library
