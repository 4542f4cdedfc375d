use Rattle.chosen_laws.proofs.DeleteLemmas as lemmas
use Rattle.chosen_laws.proofs.edit_laws.chosen_delete_is_its_deletes.Goals as goal

pub returns : goal.returns
returns c = λ s c ps cut none e. lemmas.chosen_delete_is_its_deletes s c ps cut none e
