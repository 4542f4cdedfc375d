use Rattle.line_laws.proofs.DeterminedLemmas as lemmas
use Rattle.line_laws.proofs.laws.lines_are_determined.Goals as goal

pub returns : goal.returns
returns c = lemmas.lines_are_determined c.steps_stay_cut.ensures
