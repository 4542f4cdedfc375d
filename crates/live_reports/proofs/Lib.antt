pub mod ListLemmas
pub mod BesideLemmas
pub mod SmallLemmas
pub mod EditLemmas
pub mod ExchangeLemmas
pub mod RemoveLemmas
