pub mod Digits
pub mod Widths
pub mod Indices
pub mod Spelling
pub mod Putting
pub mod Signs
