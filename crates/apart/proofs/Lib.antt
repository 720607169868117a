pub mod Touching
pub mod Widening
pub mod RowsOf
pub mod Stretch
pub mod Overlap
pub mod LikeApart
pub mod Compare
