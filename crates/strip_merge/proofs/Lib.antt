pub mod Forming
pub mod Listing
pub mod Only
pub mod Placing
pub mod Sorting
pub mod Under
pub mod Wanted
