pub mod Stored
pub mod Judged
pub mod KeptUnit
