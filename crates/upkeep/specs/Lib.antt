pub mod Upkeep
pub mod KeptCurrent
pub mod Code
