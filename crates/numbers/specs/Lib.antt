pub mod Lines
pub mod Calls
pub mod NumberLists
pub mod Code
