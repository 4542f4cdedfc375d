pub mod MeasuredLemmas
pub mod HeldLemmas
pub mod EditLemmas
pub mod RoomLemmas
mod ManyTracesLemmas
mod CountedLemmas
pub mod ComputedLemmas
pub mod SortLemmas
mod BlockLemmas
mod MappingLemmas
mod ChosenLemmas
mod ChosenEachLemmas
pub mod TakenLemmas
mod ChangedLemmas
mod SwapLemmas
mod OverLemmas
mod FillLemmas
