mod RowForce
mod Forces
