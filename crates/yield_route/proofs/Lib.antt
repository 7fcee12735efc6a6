pub mod Refused
pub mod Routing
pub mod Trying
