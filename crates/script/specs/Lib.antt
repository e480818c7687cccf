pub mod Answers
pub mod Slots
pub mod Turns
