pub mod InRangeLemmas
pub mod NumberLemmas
pub mod RangeLemmas
pub mod RoundTripLemmas
pub mod SizeLemmas
