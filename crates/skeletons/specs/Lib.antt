pub mod Skeleton
pub mod Parts
