pub mod WholePlan
pub mod PlanReply
