pub mod Turns
pub mod Rising
pub mod Marking
