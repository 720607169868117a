pub mod Groups
pub mod Sound
pub mod Depths
pub mod Distances
pub mod Code
