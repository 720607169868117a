pub mod Gates
pub mod Tables
pub mod Format
pub mod Prepare
pub mod PreparedRuns
pub mod RaceFree
pub mod Movements
