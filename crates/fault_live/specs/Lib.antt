pub mod FaultKeys
pub mod Faults
pub mod OfKeys
pub mod OfFaults
pub mod Laws
pub mod Examples
