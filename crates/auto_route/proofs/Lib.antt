pub mod Ordering
pub mod Permuting
pub mod Playing
pub mod Ranking
pub mod Refusing
pub mod Ripping
pub mod Telling
pub mod Touring
