pub mod Refused
pub mod Takes
pub mod Gives
pub mod Fitting
pub mod KeptRuns
pub mod Prepares
