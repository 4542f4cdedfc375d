mod LetterLemmas
pub mod StanzaLemmas
mod RoomLemmas
