pub mod CutRoofs
pub mod TurnsFew
pub mod BothIn
pub mod ReadyFew
