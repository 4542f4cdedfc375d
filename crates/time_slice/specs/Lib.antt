pub mod Laws
pub mod CacheLaws
pub mod Shown
pub mod Fitting
pub mod Faults
