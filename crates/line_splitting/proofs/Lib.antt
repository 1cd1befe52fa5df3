pub mod Cutting
pub mod Holding
pub mod Taking
pub mod Following
pub mod Determined
pub mod Words
