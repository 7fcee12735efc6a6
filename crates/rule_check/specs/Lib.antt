pub mod Bounds
pub mod Hulls
pub mod Known
pub mod Meaning
pub mod Runs
