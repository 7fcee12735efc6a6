pub mod Choice
pub mod Labels
pub mod LocalForm
pub mod Sides
pub mod Strips
