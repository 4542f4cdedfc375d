pub mod Changes
pub mod Held
pub mod Lent
pub mod Looked
