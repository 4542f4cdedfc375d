use Rattle.bench_laws.proofs.ReadLemmas as lemmas
use Rattle.bench_laws.proofs.read_laws.memory_reads_all.Goals as goal

pub returns-clause-edits : goal.returns-clause-edits
returns-clause-edits c = lemmas.edits_in_memory_read_all

pub returns-clause-queries : goal.returns-clause-queries
returns-clause-queries c = lemmas.queries_in_memory_read_all
