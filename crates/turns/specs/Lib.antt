pub mod Records
pub mod code
