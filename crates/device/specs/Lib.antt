pub mod Chips
pub mod Machines
pub mod Laws
