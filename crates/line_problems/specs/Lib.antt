pub mod LineProblems
pub mod NearLines
pub mod ShownParts
pub mod MissingLines
pub mod FoldProblems
pub mod LineExamples
pub mod FoldExamples
pub mod LineSpans
