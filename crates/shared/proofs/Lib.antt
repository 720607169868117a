pub mod RoofChecked
pub mod Sharing
pub mod RoofStates
