pub mod Limbs
pub mod Sides
pub mod Words
pub mod Texts
pub mod Laws
pub mod Examples
