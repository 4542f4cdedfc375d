pub mod Held
pub mod Neighbours
pub mod Along
pub mod Standing
pub mod Grid
pub mod Groups
pub mod Lately
