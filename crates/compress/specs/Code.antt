-- What the contracts of inner functions speak of: no promise rests on it.
pub mod Arrays
pub mod Cells
pub mod Rows
pub mod Entries
