use Rattle.bench_laws.proofs.CutAgainLemmas as again
use Rattle.bench_laws.proofs.laws.stays_cut.Goals as goal

pub returns : goal.returns
returns c = λ s edit cut none. again.stays_cut s edit cut none
