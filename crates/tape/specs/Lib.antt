pub mod Tape
pub mod Tapes
