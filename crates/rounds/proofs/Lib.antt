pub mod Skipping
pub mod Through
pub mod Rounds
