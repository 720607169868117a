pub mod Scanning
pub mod Digits
pub mod Answers
