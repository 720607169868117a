pub mod Seen
pub mod Path
pub mod ChildTurns
