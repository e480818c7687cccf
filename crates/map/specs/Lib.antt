pub mod Bounded
pub mod Couplers
pub mod File
pub mod Chips
pub mod Laws
pub mod CouplersLemmas
pub mod BoundedLemmas
