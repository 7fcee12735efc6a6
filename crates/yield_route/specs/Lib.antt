pub mod Named
pub mod Outcomes
pub mod Texts
pub mod Yielding
