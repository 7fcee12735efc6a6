pub mod Contours
pub mod Layers
pub mod Lines
pub mod Machine
pub mod Reading
pub mod Spelling
