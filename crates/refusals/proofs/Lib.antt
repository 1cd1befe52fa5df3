pub mod Laws
pub mod Same
pub mod Numbers
pub mod Putting
pub mod Determined
pub mod Accepted
pub mod Pairs
