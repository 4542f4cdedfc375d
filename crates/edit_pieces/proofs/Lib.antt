pub mod LaidLemmas
pub mod RunLemmas
pub mod Law
pub mod FurtherLemmas
