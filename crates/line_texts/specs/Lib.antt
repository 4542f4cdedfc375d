pub mod Lines
pub mod Devices
pub mod Printing
