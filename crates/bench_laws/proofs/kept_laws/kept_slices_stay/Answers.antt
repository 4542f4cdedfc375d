use Rattle.bench_laws.proofs.KeptSliceLemmas as kept_slices
use Rattle.bench_laws.proofs.kept_laws.kept_slices_stay.Goals as goal

pub returns : goal.returns
returns c = λ old new edit kept k cut has none after any. kept_slices.kept_slices_stay old new edit kept k cut has none after any
