pub mod Drawings
pub mod Families
pub mod Joins
pub mod Places
pub mod Relabelled
pub mod Shutting
pub mod Standing
