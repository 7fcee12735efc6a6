pub mod Exact
pub mod Members
pub mod Naming
pub mod Raised
pub mod Skips
