pub mod Crews
pub mod Calls
pub mod TwoCrews
