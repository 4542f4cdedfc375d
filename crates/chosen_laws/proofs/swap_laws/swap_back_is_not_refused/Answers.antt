use Rattle.chosen_laws.proofs.SwapBackLemmas as lemmas
use Rattle.chosen_laws.proofs.swap_laws.swap_back_is_not_refused.Goals as goal

pub returns : goal.returns
returns c = λ s new k d first second places ps is range e. lemmas.swap_back_is_not_refused s new k d first second places ps is range e
