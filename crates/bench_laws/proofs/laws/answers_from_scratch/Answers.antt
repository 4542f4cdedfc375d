use Rattle.bench_laws.proofs.StepAgainLemmas as again
use Rattle.bench_laws.proofs.laws.answers_from_scratch.Goals as goal

pub returns : goal.returns
returns c = again.answers_from_scratch
