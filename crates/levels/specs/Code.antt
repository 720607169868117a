-- What the contracts of inner functions speak of: no promise rests on it.
pub mod Group
pub mod Rows
pub mod Graph
