pub mod GatheredLemmas
pub mod FrontLemmas
pub mod ComputedFrontLemmas
mod ChoosingLemmas
mod ChoosingFaultLemmas
mod RecordLemmas
mod BesideLemmas
mod ToldLemmas
mod RangeLemmas
mod RefusedLemmas
