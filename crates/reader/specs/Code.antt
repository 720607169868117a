-- What the contracts of inner functions speak of: no promise rests on it.
pub mod Entries
pub mod Marks
pub mod Opening
pub mod Scanned
