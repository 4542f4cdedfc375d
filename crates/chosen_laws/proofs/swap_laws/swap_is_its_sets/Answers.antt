use Rattle.chosen_laws.proofs.SwapSetsLemmas as lemmas
use Rattle.chosen_laws.proofs.swap_laws.swap_is_its_sets.Goals as goal

pub returns : goal.returns
returns c = λ s k first second places ps cut none found e. lemmas.swap_is_its_sets s k first second places ps cut none found e
