pub mod Graphs
pub mod Trees
pub mod Moves
pub mod Laws
