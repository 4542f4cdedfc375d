use Rattle.std.proofs.Common.{◌≡◌, ◌*◌, ◌≤◌, length}
use Rattle.std.specs.Vec.{vec_capacity}
use Rattle.edit_overlay.specs.CountedVolume.{IsSeen}
use Rattle.edit_overlay.specs.Reads.{HaveAgreed}
use Rattle.many_traces.proofs.ListedRowsLemmas.{AreListedRows}
use Rattle.many_traces.proofs.tables.listed_rows.Given as goal

-- the rows so far, room for the others, and a look at each trace
abbrev pub invariant-loop-p : goal.invariant-loop-p
invariant-loop-p l = record {
  rows : HaveAgreed l.overlay.reads → AreListedRows l.fn.overlay.volume l.places l.traces l.p-index l.numbers.items;
  full : length l.numbers.items ≡ length l.places * l.p-index;
  room : length l.places * length l.traces ≤ vec_capacity l.numbers;
  seen : IsSeen l.fn.overlay l.overlay l.p-index;
}
