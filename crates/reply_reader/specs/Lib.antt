pub mod Blocks
pub mod Fields
pub mod Forms
pub mod InRange
pub mod Parts
pub mod Places
pub mod Readings
pub mod Said
