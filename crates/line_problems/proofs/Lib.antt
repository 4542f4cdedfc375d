pub mod PartLemmas
pub mod MissingLemmas
