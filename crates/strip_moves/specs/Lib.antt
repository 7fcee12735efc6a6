pub mod Boxes
pub mod Departures
pub mod Gains
pub mod Grounds
pub mod Listed
pub mod Order
pub mod Spans
pub mod Ways
