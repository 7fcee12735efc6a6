pub mod Counting
pub mod GoodBoard
