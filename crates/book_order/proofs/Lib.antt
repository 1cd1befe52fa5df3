pub mod Laws
pub mod Comparing
pub mod Fronts
