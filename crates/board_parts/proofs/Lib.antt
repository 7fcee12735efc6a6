pub mod Filtered
pub mod NameTables
pub mod Tables
