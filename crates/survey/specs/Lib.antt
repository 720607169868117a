pub mod Survey
pub mod SurveyError
pub mod Code
