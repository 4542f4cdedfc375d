use Rattle.std.proofs.Common.{◌≡◌, ℕ, ◌+◌, ◌-◌, ◌*◌, ◌<◌, ◌≤◌}
use Rattle.std.specs.Vec.{vec_len, vec_capacity}
use Rattle.frame_cut.specs.Traces.{trace_at}
use Rattle.edit_overlay.specs.CountedVolume.{IsSeen}
use Rattle.edit_overlay.specs.Reads.{HaveAgreed}
use Rattle.many_traces.specs.Fields.{HoldsPlace}
use Rattle.many_traces.proofs.NumbersLemmas.{AreSoFar}
use Rattle.many_traces.proofs.computed.filled.Given as goal

-- the bytes so far, room for the others, each trace so far holds the place, and a look at each trace
abbrev pub invariant-loop-k : goal.invariant-loop-k
invariant-loop-k l = record {
  far : HaveAgreed l.overlay.reads → AreSoFar l.fn.overlay.volume (record { place = l.place; source = l.source; steps = l.steps }) l.a l.k l.bytes.items;
  count : vec_len l.bytes ≡ l.place.kind.size * l.k;
  each : (j : ℕ) → j < l.k → HoldsPlace (trace_at l.fn.overlay.volume (l.a + j)) l.place;
  room : vec_len l.bytes + l.place.kind.size * (l.b + 1 - l.a - l.k) ≤ vec_capacity l.bytes;
  order : l.order ≡ l.fn.overlay.volume.head.order;
  seen : IsSeen l.fn.overlay l.overlay l.k;
}
