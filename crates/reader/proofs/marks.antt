pub mod Bits
pub mod Triangle
