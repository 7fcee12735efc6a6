pub mod Stitched
pub mod StripsOf
