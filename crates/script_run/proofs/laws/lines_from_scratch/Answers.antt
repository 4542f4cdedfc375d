use Rattle.script_run.proofs.ScratchLemmas as lemmas
use Rattle.script_run.proofs.laws.lines_from_scratch.Goals as goal

pub returns : goal.returns
returns c = lemmas.lines_from_scratch c.steps_stay_cut.ensures
