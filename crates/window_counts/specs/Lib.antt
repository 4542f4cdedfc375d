pub mod Held
pub mod Window
pub mod Places
pub mod PlaceLaws
pub mod Examples
