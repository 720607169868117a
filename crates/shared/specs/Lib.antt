pub mod Performed
pub mod code
