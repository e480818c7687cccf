pub mod Splitting
pub mod Digits
pub mod Naming
pub mod Spelling
pub mod Layouts
pub mod Apart
