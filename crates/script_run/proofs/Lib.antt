pub mod RunLemmas
pub mod TellLemmas
pub mod ScratchLemmas
pub mod EndLemmas
pub mod LineEndLemmas
pub mod InputLemmas
pub mod SessionLemmas
pub mod FullAnswerLemmas
pub mod SessionRunLemmas
pub mod SessionEndLemmas
pub mod ReadAsLemmas
pub mod InPlaceLemmas
pub mod PlaceLemmas
pub mod LookLemmas
mod SectionOutLemmas
mod SectionAskedLemmas
pub mod CauseLemmas
pub mod SessionCauseLemmas
