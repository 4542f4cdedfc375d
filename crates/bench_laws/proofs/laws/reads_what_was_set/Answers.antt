use Rattle.bench_laws.proofs.ReadsSetLemmas as set
use Rattle.bench_laws.proofs.laws.reads_what_was_set.Goals as goal

pub returns : goal.returns
returns c = λ s p field x v cut none after. set.reads_what_was_set s p field x v cut none after
