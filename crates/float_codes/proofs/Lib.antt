pub mod IbmLemmas
pub mod NearestLemmas
pub mod LawLemmas
pub mod RankLemmas
pub mod CodeLemmas
