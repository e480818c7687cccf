pub mod OnCouplers
pub mod Services
