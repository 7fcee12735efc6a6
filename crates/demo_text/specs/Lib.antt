pub mod Bounds
pub mod Summary
