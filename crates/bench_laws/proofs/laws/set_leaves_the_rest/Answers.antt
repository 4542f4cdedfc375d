use Rattle.bench_laws.proofs.ReadsSetLemmas as set
use Rattle.bench_laws.proofs.laws.set_leaves_the_rest.Goals as goal

pub returns : goal.returns
returns c = λ s p field x v cut none after. set.set_leaves_the_rest s p field x v cut none after
