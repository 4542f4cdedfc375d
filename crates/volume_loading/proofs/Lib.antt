pub mod FaultLemmas
pub mod LoadingLemmas
pub mod PassLemmas
pub mod PassingLemmas
