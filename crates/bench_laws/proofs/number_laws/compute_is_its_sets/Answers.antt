use Rattle.bench_laws.proofs.RenumberingLemmas as computing
use Rattle.bench_laws.proofs.number_laws.compute_is_its_sets.Goals as goal

pub returns : goal.returns
returns c = λ s a b field source steps cut none. computing.compute_is_its_sets s a b field source steps cut none
