mod ManyTracesLemmas
pub mod ChangeLemmas
pub mod SliceLemmas
