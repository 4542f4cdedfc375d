pub mod Runs
pub mod Puts
pub mod Fronts
pub mod Counted
pub mod Values
pub mod Shown
pub mod Examples
