pub mod Arms
pub mod Counted
pub mod Heads
pub mod Picks
pub mod Table
pub mod Tests
pub mod Written
pub mod Branches
