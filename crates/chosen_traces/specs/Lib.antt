pub mod Choosing
pub mod Gathered
pub mod RecordTests
pub mod Retold
