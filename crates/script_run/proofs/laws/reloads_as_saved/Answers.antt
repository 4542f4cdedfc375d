use Rattle.script_run.proofs.ScratchLemmas as lemmas
use Rattle.script_run.proofs.laws.reloads_as_saved.Goals as goal

pub returns : goal.returns
returns c = lemmas.reloads_as_saved c.steps_stay_cut.ensures c.answers_from_scratch.ensures
