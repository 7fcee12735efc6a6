pub mod FirstWord
pub mod Pieces
