use Rattle.chosen_laws.proofs.RangeLemmas as lemmas
use Rattle.chosen_laws.proofs.range_laws.compute_is_of_its_range.Goals as goal

pub returns : goal.returns
returns c = λ s a b field source steps. lemmas.compute_is_of_its_range s a b field source steps
