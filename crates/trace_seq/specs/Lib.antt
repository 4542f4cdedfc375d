pub mod Order
pub mod Chunks
pub mod Fronts
pub mod Examples
pub mod Laws
pub mod Without
pub mod Settling
