pub mod AheadRows
pub mod StepsAhead
