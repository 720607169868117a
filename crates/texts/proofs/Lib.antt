pub mod TextReads
pub mod TextWrites
