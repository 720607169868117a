pub mod Structs
pub mod Code
