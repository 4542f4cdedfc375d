use Rattle.script_run.proofs.SessionRunLemmas as lemmas
use Rattle.script_run.proofs.laws.out_is_last_save.Goals as goal

pub returns : goal.returns
returns c = lemmas.out_is_last_save
