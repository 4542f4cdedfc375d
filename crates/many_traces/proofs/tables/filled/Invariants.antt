use Rattle.std.proofs.Common.{◌≡◌, ◌+◌, ◌-◌, ◌*◌, ◌≤◌, length}
use Rattle.std.specs.Vec.{vec_capacity}
use Rattle.edit_overlay.specs.CountedVolume.{IsSeen}
use Rattle.edit_overlay.specs.Reads.{HaveAgreed}
use Rattle.many_traces.proofs.RowsLemmas.{AreRows}
use Rattle.many_traces.proofs.tables.filled.Given as goal

-- the rows so far, room for the others, and a look at each trace
abbrev pub invariant-loop-k : goal.invariant-loop-k
invariant-loop-k l = record {
  rows : HaveAgreed l.overlay.reads → AreRows l.fn.overlay.volume l.places l.a l.b l.k l.numbers.items;
  full : length l.numbers.items ≡ length l.places * l.k;
  room : length l.places * (l.b + 1 - l.a) ≤ vec_capacity l.numbers;
  seen : IsSeen l.fn.overlay l.overlay l.k;
}
