pub mod Unit
pub mod KeptUnit
pub mod Code
