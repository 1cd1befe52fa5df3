pub mod Alike
pub mod Laws
pub mod Determined
pub mod Words
