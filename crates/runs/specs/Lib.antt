pub mod Runs
pub mod Sheet
pub mod Law
pub mod Carrying
