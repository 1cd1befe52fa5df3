pub mod Decimal
pub mod Hyphens
pub mod Elements
pub mod Keys
pub mod Values
