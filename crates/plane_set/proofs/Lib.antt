pub mod Adding
pub mod Admitting
pub mod Barring
pub mod Joining
pub mod Places
pub mod Relabelling
pub mod Shutting
pub mod Standing
