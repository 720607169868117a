pub mod Lists
pub mod Near
pub mod Ascii
pub mod Integers
pub mod Refusals
pub mod Replies
pub mod Verdicts
pub mod Code
