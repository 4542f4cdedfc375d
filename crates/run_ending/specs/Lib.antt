pub mod Passing
pub mod Ending
pub mod Standing
pub mod StandingExamples
pub mod Recovering
