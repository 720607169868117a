pub mod Bits
pub mod Filled
pub mod Spelled
pub mod Split
pub mod NumberLists
