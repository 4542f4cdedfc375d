use Rattle.chosen_laws.proofs.DeleteLemmas as lemmas
use Rattle.chosen_laws.proofs.edit_laws.chosen_delete_leaves_the_others.Goals as goal

pub returns : goal.returns
returns c = λ s c ps v cut none e after. lemmas.chosen_delete_leaves_the_others s c ps v cut none e after
