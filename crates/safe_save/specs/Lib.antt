pub mod Disk
pub mod Saving
pub mod Bounded
pub mod Fake
pub mod Places
pub mod Times
pub mod Examples
