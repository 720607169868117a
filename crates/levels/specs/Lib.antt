pub mod Levels
pub mod Roots
pub mod Code
