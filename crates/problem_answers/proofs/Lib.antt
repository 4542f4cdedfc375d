pub mod FewLemmas
pub mod CellLemmas
pub mod RisingLemmas
pub mod LineLemmas
pub mod SurveyLemmas
pub mod ReplyLemmas
