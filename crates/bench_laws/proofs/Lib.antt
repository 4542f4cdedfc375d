mod ResizedSampleLemmas
pub mod ReadsSetLemmas
mod ResizeLemmas
mod RenumberingLemmas
mod CutAgainLemmas
mod StepAgainLemmas
mod SliceRowLemmas
mod KeptSetLemmas
mod KeptNumberLemmas
pub mod KeptSliceLemmas
mod OneNumberLemmas
pub mod SortLemmas
mod TotalLemmas
mod ReadLemmas
