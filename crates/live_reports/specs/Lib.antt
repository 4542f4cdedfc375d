pub mod Alike
pub mod Tallies
pub mod Reports
pub mod Exchanged
pub mod OfRecords
