pub mod Statuses
pub mod Calls
pub mod Obeying
