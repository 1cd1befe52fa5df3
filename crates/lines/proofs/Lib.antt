pub mod Threes
pub mod Decided
pub mod Passing
pub mod RoundTrip
pub mod Words
pub mod Determined
pub mod Kept
pub mod Told
