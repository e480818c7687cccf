pub mod Grid
pub mod Chips
pub mod Couplers
pub mod Formula
