use Rattle.std.proofs.Common.{◌≡◌, ◌+◌}
use Rattle.trace_seq.specs.Fronts.{front}
use Rattle.trace_seq.proofs.fronts.locate.Given as goal

abbrev pub invariant-loop-k : goal.invariant-loop-k
invariant-loop-k l = front l.chunks l.k + l.left ≡ l.place
