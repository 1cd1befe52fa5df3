mod Fronts
pub mod Stored
pub mod Given
pub mod Laws
pub mod Determined
pub mod Words
