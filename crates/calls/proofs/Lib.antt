pub mod InTurn
pub mod JobChecked
pub mod Scattering
pub mod ForceList
pub mod Prepared
pub mod Performing
