-- What the contracts of inner functions speak of: no promise rests on it.
pub mod Upper
pub mod Row
pub mod Triangle
