pub mod CommonestLemmas
pub mod FractionLemmas
