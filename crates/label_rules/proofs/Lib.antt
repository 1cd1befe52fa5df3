pub mod Sought
pub mod Laws
pub mod Meaning
