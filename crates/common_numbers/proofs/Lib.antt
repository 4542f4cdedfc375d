pub mod TimesLemmas
pub mod CommonestLemmas
pub mod WalkLemmas
