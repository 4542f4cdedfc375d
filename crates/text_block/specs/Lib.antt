pub mod Characters
pub mod Tables
pub mod Blocks
pub mod Lines
pub mod Stanzas
pub mod Examples
