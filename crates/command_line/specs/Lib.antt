pub mod CommandLine
pub mod CommandLineExamples
