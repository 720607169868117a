pub mod Columns
pub mod At
pub mod Rows
pub mod Count
pub mod Good
pub mod Back
