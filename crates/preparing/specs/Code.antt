-- What the contracts of inner functions speak of: no promise rests on it.
pub mod Gates
pub mod Filled
pub mod Rows
pub mod Prepared
