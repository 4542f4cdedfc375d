pub mod AcceptedLemmas
pub mod LimitTextLemmas
pub mod ReadableLemmas
pub mod RowLemmas
