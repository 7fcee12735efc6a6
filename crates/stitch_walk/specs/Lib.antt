pub mod Links
pub mod Maximal
pub mod Neighbours
pub mod Pieces
pub mod Reaches
pub mod Sweeps
