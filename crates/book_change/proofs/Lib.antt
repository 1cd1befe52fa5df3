pub mod Fitting
pub mod Laws
pub mod Room
