pub mod TableTextLemmas
pub mod FullLineLemmas
pub mod ProblemLineLemmas
pub mod AnswerLineLemmas
pub mod PlainLemmas
pub mod FloatLineLemmas
pub mod SectionLemmas
pub mod SectionLineLemmas
