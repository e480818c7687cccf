pub mod Adjacent
pub mod Blocks
pub mod Plans
pub mod Views
pub mod Laws
pub mod Reasons
pub mod Faults
