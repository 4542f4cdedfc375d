use Rattle.bench_laws.proofs.ReadLemmas as lemmas
use Rattle.bench_laws.proofs.read_laws.refused_edits_change_nothing.Goals as goal

pub returns : goal.returns
returns c = lemmas.refused_edits_change_nothing
