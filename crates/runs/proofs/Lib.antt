pub mod Lists
pub mod Tied
pub mod Counting
pub mod Exact
