use Rattle.bench_laws.proofs.RenumberingLemmas as renumber
use Rattle.bench_laws.proofs.number_laws.renumber_is_its_sets.Goals as goal

pub returns : goal.returns
returns c = λ s a b field first step cut none. renumber.renumber_is_its_sets s a b field first step cut none
