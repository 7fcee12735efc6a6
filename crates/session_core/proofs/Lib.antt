pub mod Adopting
pub mod Answering
pub mod Listing
pub mod OnBoard
pub mod Turning
