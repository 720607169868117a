pub mod Remainders
pub mod Weighing
pub mod ControlNumbers
