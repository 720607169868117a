pub mod Products
pub mod TableUpdates
pub mod GivenTables
pub mod TableSteps
pub mod UpdatesAtHand
