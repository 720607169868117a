pub mod Entries
pub mod Tallies
pub mod Rows
pub mod Replies
