pub mod Good
pub mod Laws
pub mod Whole
