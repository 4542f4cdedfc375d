pub mod Worth
pub mod Sums
pub mod HoldsSum
pub mod HoldsTotal
pub mod Laws
pub mod Examples
