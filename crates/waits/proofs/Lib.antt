pub mod Passes
pub mod PassTurns
pub mod Kept
