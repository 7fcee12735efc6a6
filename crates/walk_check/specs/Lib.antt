pub mod Clear
pub mod Corners
