use Rattle.std.proofs.Common.{◌<◌, ◌≢◌, ◌+◌, get_or, length, refl, arith}
use Rattle.trace_seq.proofs.ThinLemmas.{gathered-taken, gathered-kept}
use Rattle.trace_seq.proofs.thinning.gather.Goals as goal
use Rattle.trace_seq.proofs.thinning.gather.Goals.{then-taken-positions+then-positions-taken, else-taken-positions, else-taken-positions-via-then-taken-positions+else-positions-taken, else-taken-positions-via-else-taken-positions}

pub loop-k-preserved : goal.loop-k-preserved
loop-k-preserved c = elim c.if-taken-positions.branch [
  | then-taken-positions+then-positions-taken w ↦ rw (w.ids-is, w.taken-is) (gathered-taken c.args.ids.now c.loop-k.ids c.args.positions.now c.args.first c.loop-k.k c.loop-k.taken c.loop-k.invariant c.loop-k-test.true w.if-taken-positions.true w.if-positions-taken.true)
  | else-taken-positions w ↦
      let ne : c.loop-k.taken < length c.args.positions.now → get_or c.args.positions.now c.loop-k.taken 0 ≢ c.args.first + c.loop-k.k = elim w.else-taken-positions.branch [
        | else-taken-positions-via-then-taken-positions+else-positions-taken v ↦ λ some e. v.if-positions-taken.false e
        | else-taken-positions-via-else-taken-positions v ↦ λ some e. omega (arith, some, v.if-taken-positions.false)
      ] in
      rw (w.ids-is, w.taken-is) (gathered-kept c.args.ids.now c.loop-k.ids c.args.positions.now c.args.first c.loop-k.k c.loop-k.taken (get_or c.loop-k.ids c.loop-k.k 0) c.loop-k.invariant c.loop-k-test.true ne refl)
]
