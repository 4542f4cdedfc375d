pub mod Chosen
pub mod Held
pub mod Places
pub mod Refusals
pub mod Looked
