-- What the contracts of inner functions speak of: no promise rests on it.
pub mod Net
pub mod Marks
pub mod Subject
