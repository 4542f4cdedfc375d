pub mod WindowLemmas
pub mod StaysLemmas
pub mod ValueLemmas
pub mod ReadLemmas
pub mod PartLemmas
pub mod OtherLemmas
