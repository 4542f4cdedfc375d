pub mod Seen
pub mod Faults
pub mod Disks
pub mod HeldBytes
pub mod Rooms
pub mod HeldIn
