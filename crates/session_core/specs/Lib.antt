pub mod Adopting
pub mod Attempts
pub mod Sessions
