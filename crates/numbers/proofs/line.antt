pub mod Wholes
pub mod Numbers
