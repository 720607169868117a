pub mod Measuring
pub mod Writing
pub mod Sizes
