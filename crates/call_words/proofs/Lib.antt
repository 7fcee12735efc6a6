pub mod Naming
pub mod Wording
