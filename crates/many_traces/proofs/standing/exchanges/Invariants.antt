use Rattle.std.proofs.Common.{◌≡◌, ℕ, ◌<◌, length, ◌≤◌}
use Rattle.std.specs.Prelude.{slice_index}
use Rattle.many_traces.specs.Arranged.{AreInStep}
use Rattle.many_traces.proofs.standing.exchanges.Given as goal

-- the items before this place stand as they are to
abbrev pub invariant-loop-place : goal.invariant-loop-place
invariant-loop-place l = record {
  step : AreInStep l.standing.first l.standing.items.items l.standing.places.items l.standing.pairs.items;
  first : l.standing.first ≡ l.first;
  long : length l.standing.items.items ≡ length l.order;
  before : (k : ℕ) → k < l.place → slice_index l.standing.items.items k ≡ slice_index l.order k;
  memory : l.initial.room ≤ l.room;
}
