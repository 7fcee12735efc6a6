pub mod After
pub mod Ends
pub mod Items
pub mod Leaving
pub mod Runs
pub mod States
