pub mod Word
pub mod Bytes
pub mod Code
