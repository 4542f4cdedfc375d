use Rattle.chosen_laws.proofs.RangeLemmas as lemmas
use Rattle.chosen_laws.proofs.range_laws.chosen_of_a_range.Goals as goal

pub returns : goal.returns
returns c = λ v fields a b. lemmas.range_is_chosen v fields a b
