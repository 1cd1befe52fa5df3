pub mod Cutting
pub mod Rows
pub mod Measuring
pub mod Filling
pub mod Answers
pub mod Laws
