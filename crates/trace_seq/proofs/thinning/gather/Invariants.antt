use Rattle.trace_seq.proofs.ThinLemmas.{AreGathered}
use Rattle.trace_seq.proofs.thinning.gather.Given as goal

abbrev pub invariant-loop-k : goal.invariant-loop-k
invariant-loop-k l = AreGathered l.fn.ids l.ids l.positions l.first l.k l.taken
