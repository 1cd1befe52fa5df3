pub mod Parts
pub mod Window
