use Rattle.chosen_laws.proofs.NoneLemmas as lemmas
use Rattle.chosen_laws.proofs.edit_laws.none_chosen_changes_nothing.Goals as goal

pub returns : goal.returns
returns c = λ s c edit e. lemmas.none_chosen_changes_nothing s c edit e
