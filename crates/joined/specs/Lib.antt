pub mod Joined
pub mod SewnTogether
pub mod Code
