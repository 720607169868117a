pub mod Bits
pub mod Registers
pub mod Gatherings
pub mod BarrierUnit
