use Rattle.bench_laws.proofs.TotalLemmas as lemmas
use Rattle.bench_laws.proofs.live_laws.totals_are_of_all_samples.Goals as goal

pub returns : goal.returns
returns c = lemmas.totals_are_of_all_samples
