use Rattle.bench_laws.proofs.ReadLemmas as lemmas
use Rattle.bench_laws.proofs.read_laws.rules_tell_of_no_read.Goals as goal

pub returns-clause-edits : goal.returns-clause-edits
returns-clause-edits c = lemmas.first_refusals_tell_of_no_read

pub returns-clause-queries : goal.returns-clause-queries
returns-clause-queries c = lemmas.answers_tell_of_no_read
