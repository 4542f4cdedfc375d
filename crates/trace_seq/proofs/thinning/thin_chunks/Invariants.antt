use Rattle.trace_seq.proofs.ThinChunkLemmas.{AreThinnedUpTo}
use Rattle.trace_seq.proofs.thinning.thin_chunks.Given as goal

abbrev pub invariant-loop-k : goal.invariant-loop-k
invariant-loop-k l = AreThinnedUpTo l.fn.chunks l.chunks l.positions l.first l.k l.taken
