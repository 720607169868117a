-- What the contracts of inner functions speak of: no promise rests on it.
pub mod Both
pub mod Inside
pub mod Turned
pub mod Lists
