pub mod Best
pub mod Rounds
pub mod States
pub mod Texts
pub mod Tours
