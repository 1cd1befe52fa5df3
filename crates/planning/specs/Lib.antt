pub mod Plan
pub mod Preview
