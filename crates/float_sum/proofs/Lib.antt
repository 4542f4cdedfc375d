pub mod WorthLemmas
pub mod StickyLemmas
pub mod WordLemmas
pub mod RoundLemmas
pub mod HoldsLemmas
pub mod TotalLemmas
