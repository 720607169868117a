-- What the contracts of inner functions speak of: no promise rests on it.
pub mod Listed
pub mod Made
pub mod Scatter
pub mod Held
