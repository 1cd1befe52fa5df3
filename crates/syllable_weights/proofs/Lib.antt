pub mod Weighted
