pub mod Devices
pub mod Failures
pub mod Growth
pub mod Steps
pub mod WholeReads
pub mod WholeWrites
