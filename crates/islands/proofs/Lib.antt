pub mod Reached
pub mod Growing
pub mod Trees
pub mod Gathering
