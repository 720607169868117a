pub mod Shifts
pub mod SurveyError
pub mod Rows
pub mod Reply
