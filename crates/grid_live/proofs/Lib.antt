pub mod FittingLemmas
pub mod GridLemmas
pub mod OwnKeyLemmas
pub mod LoadLemmas
pub mod CountedLemmas
