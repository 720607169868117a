pub mod Sized
pub mod Files
pub mod Judged
pub mod Parts
pub mod PlanFiles
