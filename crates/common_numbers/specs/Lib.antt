pub mod Commonest
pub mod CommonestExamples
