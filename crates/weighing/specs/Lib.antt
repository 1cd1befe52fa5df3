pub mod Order
pub mod Keys
pub mod Prefix
pub mod Earlier
