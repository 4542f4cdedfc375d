use Rattle.chosen_laws.proofs.RangeLemmas as lemmas
use Rattle.chosen_laws.proofs.range_laws.queries_are_of_their_range.Goals as goal

pub returns : goal.returns
returns c = lemmas.queries_are_of_their_range
