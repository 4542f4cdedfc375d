pub mod HeldLemmas
pub mod LookLemmas
pub mod PieceLemmas
pub mod SavingLemmas
pub mod StandingLemmas
