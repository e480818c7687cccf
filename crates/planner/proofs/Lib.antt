pub mod Duality
pub mod Neighbours
pub mod Carrying
pub mod Planning
pub mod Asking
pub mod Couplers
