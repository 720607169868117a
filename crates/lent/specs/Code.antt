-- What the contracts of inner functions speak of: no promise rests on it.
pub mod Few
pub mod Nets
pub mod Plans
