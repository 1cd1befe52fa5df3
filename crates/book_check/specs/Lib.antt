pub mod Chain
pub mod Opening
