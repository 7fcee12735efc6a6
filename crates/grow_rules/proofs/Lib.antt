pub mod FrameParts
pub mod Grown
