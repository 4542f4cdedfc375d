pub mod RangeLaws
pub mod EditLaws
pub mod EditExamples
pub mod SwapLaws
pub mod SwapExamples
pub mod FillExamples
