pub mod UnderRules
pub mod AllBelow
pub mod TableWaits
pub mod BlockedLeaves
pub mod RunTurns
pub mod PlannedTables
pub mod ReadyBits
