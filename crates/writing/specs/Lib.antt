pub mod Write
pub mod Records
pub mod Size
pub mod Put
