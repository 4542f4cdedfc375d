use Rattle.chosen_laws.proofs.PatchesLemmas as lemmas
use Rattle.chosen_laws.proofs.edit_laws.fill_is_its_patches.Goals as goal

pub returns : goal.returns
returns c = λ s k first last x ps cut none e. lemmas.fill_is_its_patches s k first last x ps cut none e
