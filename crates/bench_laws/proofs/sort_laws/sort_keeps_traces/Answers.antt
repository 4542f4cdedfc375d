use Rattle.bench_laws.proofs.SortLemmas as sorting
use Rattle.bench_laws.proofs.sort_laws.sort_keeps_traces.Goals as goal

pub returns : goal.returns
returns c = λ s new a b names falls cut none after. sorting.sort_keeps_traces s new a b names falls cut none after
