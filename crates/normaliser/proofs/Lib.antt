pub mod Admitting
pub mod Storing
pub mod Writing
pub mod Determined
pub mod Laws
pub mod Earlier
pub mod Worked
