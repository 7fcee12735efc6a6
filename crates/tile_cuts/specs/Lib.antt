pub mod Mending
pub mod Parts
