pub mod WriteLemmas
pub mod CauseLemmas
