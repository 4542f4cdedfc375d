pub mod HeldLemmas
pub mod PlaceLemmas
pub mod SpanLemmas
pub mod MergeLemmas
pub mod RowsLemmas
pub mod OutsideLemmas
