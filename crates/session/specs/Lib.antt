pub mod State
pub mod Views
pub mod New
pub mod Calls
pub mod Outages
pub mod Begins
pub mod Flushes
pub mod Planning
