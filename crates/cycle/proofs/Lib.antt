pub mod Thirds
pub mod Holding
pub mod PairPlans
pub mod GroupPlans
pub mod GroupTasks
pub mod NextPair
pub mod PairTasks
