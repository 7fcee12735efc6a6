pub mod Changes
pub mod Edges
pub mod States
