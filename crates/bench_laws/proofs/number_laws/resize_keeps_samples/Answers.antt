use Rattle.bench_laws.proofs.ResizeLemmas as resize
use Rattle.bench_laws.proofs.number_laws.resize_keeps_samples.Goals as goal

pub returns : goal.returns
returns c = λ s p m v f reads cut none after. resize.resize_keeps_samples s p m v f reads cut none after
