pub mod Broken
pub mod Corners
pub mod Keeping
pub mod Legs
pub mod Pairs
pub mod Regular
pub mod Shapes
pub mod Wide
