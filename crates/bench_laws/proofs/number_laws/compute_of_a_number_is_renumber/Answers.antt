use Rattle.bench_laws.proofs.OneNumberLemmas as number
use Rattle.bench_laws.proofs.number_laws.compute_of_a_number_is_renumber.Goals as goal

pub returns : goal.returns
returns c = λ s a b field x. number.compute_of_a_number_is_renumber s a b field x
