use Rattle.script_run.proofs.SessionRunLemmas as lemmas
use Rattle.script_run.proofs.laws.session_is_run.Goals as goal

pub returns : goal.returns
returns c = lemmas.session_is_run
