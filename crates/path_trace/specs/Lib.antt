pub mod Lines
pub mod Paths
pub mod Strips
pub mod Traces
