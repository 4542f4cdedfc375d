use Rattle.trace_seq.specs.Fronts.{AreEven}
use Rattle.trace_seq.proofs.even.even_chunks.Given as goal

abbrev pub invariant-loop-k : goal.invariant-loop-k
invariant-loop-k l = AreEven l.chunks l.k
