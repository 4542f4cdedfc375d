pub mod DeterminedLemmas
