pub mod Bits
pub mod Histories
pub mod BarrierUnit
