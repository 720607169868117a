pub mod LittleEndian
pub mod Code
