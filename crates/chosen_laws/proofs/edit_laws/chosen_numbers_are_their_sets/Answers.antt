use Rattle.chosen_laws.proofs.NumberLemmas as lemmas
use Rattle.chosen_laws.proofs.edit_laws.chosen_numbers_are_their_sets.Goals as goal

pub returns : goal.returns
returns c = λ s c edit ps place ns cut none e sets. lemmas.chosen_numbers_are_their_sets s c edit ps place ns cut none e sets
