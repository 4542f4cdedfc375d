use Rattle.trace_seq.specs.Settling.{IsReordered, IsSettled}
use Rattle.trace_seq.proofs.thinning.settle.Given as goal

abbrev pub invariant-loop-k : goal.invariant-loop-k
invariant-loop-k l = record {
  settled : IsSettled l.chunks l.kept l.k;
  same : IsReordered l.fn.chunks l.chunks;
}
