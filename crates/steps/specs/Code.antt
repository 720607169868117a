-- What the contracts of inner functions speak of: no promise rests on it.
pub mod AtHand
pub mod Steps
pub mod Sum
pub mod Updates
pub mod Work
