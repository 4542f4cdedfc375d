pub mod SliceLemmas
pub mod OrderLemmas
pub mod PassLemmas
pub mod CacheLemmas
pub mod KeptLemmas
pub mod FitLemmas
pub mod TurnLemmas
pub mod WalkLemmas
