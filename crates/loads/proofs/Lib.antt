pub mod Weights
pub mod Stretches
pub mod LevelLoads
