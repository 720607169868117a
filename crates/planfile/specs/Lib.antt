pub mod File
pub mod Calls
pub mod PlanFiles
pub mod Code
