pub mod Told
pub mod Judging
pub mod Filling
pub mod Replies
