pub mod Answers
pub mod Layout
pub mod Faults
pub mod Chips
