pub mod Passes
pub mod Turning
