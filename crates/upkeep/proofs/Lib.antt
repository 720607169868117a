pub mod Put
pub mod Altered
pub mod Deltas
pub mod KeptCurrent
pub mod RowAdded
pub mod BothSums
pub mod CurrentReply
pub mod Displacing
pub mod Altering
mod Positioned
