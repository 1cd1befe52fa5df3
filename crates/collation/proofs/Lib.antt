pub mod Comparing
pub mod Determined
pub mod Laws
pub mod Weighing
pub mod Apart
pub mod Words
pub mod Earlier
