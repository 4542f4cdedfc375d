use Rattle.bench_laws.proofs.StepAgainLemmas as again
use Rattle.bench_laws.proofs.laws.steps_stay_cut.Goals as goal

pub returns : goal.returns
returns c = λ old new edits replies cut steps. again.steps_stay_cut old new edits replies cut steps
