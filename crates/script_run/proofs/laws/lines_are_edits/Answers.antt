use Rattle.script_run.proofs.ScratchLemmas as lemmas
use Rattle.script_run.proofs.laws.lines_are_edits.Goals as goal

pub returns : goal.returns
returns c = lemmas.lines_are_edits
