-- What the contracts of inner functions speak of: no promise rests on it.
pub mod UpdateTable
pub mod SizedPlan
