pub mod Cutting
pub mod Decimals
pub mod Draws
pub mod Filling
pub mod Layering
pub mod Once
pub mod Steps
pub mod Wanted
