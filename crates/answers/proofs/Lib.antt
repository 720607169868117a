pub mod CutJobs
pub mod RunCalls
pub mod RunForces
pub mod TakenFew
pub mod RunPicks
pub mod StateBytes
