pub mod Answers
pub mod Goals
pub mod Keys
pub mod Once
pub mod Underway
pub mod Waits
