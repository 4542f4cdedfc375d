pub mod Differences
pub mod Commonest
pub mod DifferencesExamples
pub mod CommonestExamples
