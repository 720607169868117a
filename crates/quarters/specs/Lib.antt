pub mod Both
pub mod Code
