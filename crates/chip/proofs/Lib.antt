pub mod Answers
pub mod Joining
