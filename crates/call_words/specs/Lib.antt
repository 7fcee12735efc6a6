pub mod Asked
pub mod Names
pub mod Numbers
pub mod Requests
pub mod Trials
pub mod Verbs
