mod AskedLemmas
mod PlainLemmas
