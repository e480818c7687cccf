pub mod Ways
pub mod Moving
pub mod Costs
pub mod Straddling
pub mod Filling
pub mod Standing
pub mod Keeping
pub mod Ending
