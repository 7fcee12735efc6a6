pub mod Bounds
pub mod Fronts
pub mod Passages
pub mod Searches
pub mod Stages
pub mod Verdicts
