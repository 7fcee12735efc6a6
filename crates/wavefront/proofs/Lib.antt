pub mod Chained
pub mod Coming
pub mod Left
pub mod Order
pub mod Popping
pub mod Pushing
