pub mod WordAt
