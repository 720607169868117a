pub mod Extents
pub mod Ends
pub mod FirstEnd
pub mod NearestEnd
pub mod PairEnd
