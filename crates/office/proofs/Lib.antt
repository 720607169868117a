pub mod Products
pub mod Plans
pub mod PlanChecks
