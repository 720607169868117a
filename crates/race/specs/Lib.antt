pub mod Loads
pub mod Planner
pub mod PlannedSound
pub mod PlannedLeaves
