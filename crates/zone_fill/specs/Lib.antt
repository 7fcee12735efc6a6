pub mod Cuts
pub mod Flooding
pub mod Marks
pub mod Pour
pub mod Poured
pub mod Rules
pub mod Seeds
pub mod Texts
