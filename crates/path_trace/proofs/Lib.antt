pub mod Splits
pub mod Nodes
pub mod Leads
pub mod Lasts
pub mod Grows
pub mod Backwards
pub mod Boards
pub mod Strips
