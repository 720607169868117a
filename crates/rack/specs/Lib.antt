pub mod Kept
pub mod KeptRuns
pub mod Code
