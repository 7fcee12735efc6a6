pub mod Commands
pub mod Gaps
pub mod Lookup
pub mod Owners
pub mod Rules
