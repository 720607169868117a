pub mod Extents
pub mod PairLevels
pub mod Code
