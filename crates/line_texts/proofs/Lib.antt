pub mod OutLemmas
pub mod TextLemmas
