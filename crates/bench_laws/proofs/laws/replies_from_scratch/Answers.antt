use Rattle.bench_laws.proofs.StepAgainLemmas as again
use Rattle.bench_laws.proofs.laws.replies_from_scratch.Goals as goal

pub returns : goal.returns
returns c = again.replies_from_scratch
