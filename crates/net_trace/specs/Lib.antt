pub mod Flooding
pub mod Joined
pub mod Listing
pub mod Named
pub mod Pieces
pub mod Report
pub mod Texts
pub mod Touching
