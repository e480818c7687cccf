pub mod Between
pub mod Naming
pub mod Placed
