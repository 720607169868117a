pub mod Performed
pub mod Code
