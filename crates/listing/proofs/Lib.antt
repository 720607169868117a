pub mod FirstLine
pub mod Judged
pub mod PlanLists
pub mod Printed
