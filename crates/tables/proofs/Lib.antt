pub mod FlatOpen
pub mod WayDown
pub mod Nesting
pub mod FlatWait
pub mod LeafIndex
pub mod LeafWait
pub mod LeafOwner
pub mod Different
