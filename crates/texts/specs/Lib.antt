pub mod Lent
pub mod code
