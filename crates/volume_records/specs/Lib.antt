pub mod OfVolume
pub mod Faults
pub mod OfPass
pub mod Laid
