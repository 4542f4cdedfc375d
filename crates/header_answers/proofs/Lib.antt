pub mod FoundLemmas
mod NameLemmas
mod SeenLemmas
mod MainLemmas
