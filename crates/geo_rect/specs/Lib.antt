pub mod Axis
pub mod Distance
pub mod Edges
pub mod Images
pub mod Line
pub mod Order
pub mod Plane
pub mod Tests
