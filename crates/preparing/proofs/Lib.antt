pub mod Passes
pub mod Columns
pub mod Fills
pub mod Heads
pub mod LeafGates
pub mod Lists
pub mod Written
pub mod Prepares
