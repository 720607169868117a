pub mod CheckReply
pub mod Flattening
pub mod Gathering
pub mod PlanReply
