pub mod Words
pub mod Sets
pub mod Gates
pub mod Entries
pub mod Placements
pub mod Pairing
pub mod Laws
