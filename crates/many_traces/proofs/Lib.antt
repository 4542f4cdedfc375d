pub mod RowsLemmas
mod ListedRowsLemmas
pub mod FormulaLemmas
pub mod NumbersLemmas
pub mod SwappedLemmas
mod FillingLemmas
mod NearLemmas
mod BlockLemmas
pub mod ExchangeLemmas
pub mod SortedTraceLemmas
mod ShownLemmas
mod NoReadLemmas
