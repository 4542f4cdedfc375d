pub mod CharacterTableLemmas
pub mod EncodedLemmas
pub mod EndStanzaLemmas
pub mod LineLemmas
pub mod StanzaLemmas
