use Rattle.chosen_laws.proofs.SwapBackLemmas as lemmas
use Rattle.chosen_laws.proofs.swap_laws.swap_twice_is_nothing.Goals as goal

pub returns : goal.returns
returns c = λ s new k d first second places ps is e. lemmas.swap_twice_is_nothing s new k d first second places ps is e
