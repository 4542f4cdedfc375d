pub mod GridKeys
pub mod Cells
pub mod OfTally
pub mod Fitting
pub mod OfKeys
pub mod OfGrid
pub mod Laws
pub mod Examples
