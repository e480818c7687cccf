pub mod Words
pub mod Numbers
pub mod Verbs
pub mod Commands
pub mod Shapes
pub mod Lines
pub mod Alike
