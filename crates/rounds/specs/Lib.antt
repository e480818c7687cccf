pub mod Ways
pub mod Duals
pub mod Rounds
pub mod Plans
pub mod Exactness
