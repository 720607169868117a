pub mod GroupTests
pub mod PlanTests
