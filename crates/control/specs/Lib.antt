pub mod ControlNumber
pub mod ControlNumbers
