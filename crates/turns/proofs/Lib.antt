pub mod CrewBytes
pub mod CrewTurns
pub mod CrewHands
pub mod SharedLoop
