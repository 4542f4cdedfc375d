pub mod Values
pub mod Nearest
pub mod Ranks
pub mod Codes
pub mod Laws
pub mod Examples
