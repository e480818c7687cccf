pub mod Statuses
pub mod Passing
