pub mod Cutting
pub mod Filling
pub mod Joining
pub mod Mended
pub mod Planning
pub mod Relabelling
pub mod Relinking
pub mod Splitting
