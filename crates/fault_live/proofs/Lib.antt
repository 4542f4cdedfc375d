pub mod OnceLemmas
pub mod FirstLemmas
pub mod ReportStepLemmas
pub mod TripleLemmas
pub mod LoadLemmas
pub mod CountedLemmas
