pub mod Loads
pub mod Answers
