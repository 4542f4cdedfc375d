-- Traces that have room for a number at a place, and bytes that may stand in the place of a trace.
use Rattle.std.specs.Prelude.{◌+◌, ◌-◌, ◌<◌, ◌≤◌, ℕ, List, length}
use Rattle.field_map.specs.declared.place.Place.{Place}
use Rattle.frame_cut.specs.Cuts.{IsTrace}
use Rattle.frame_cut.specs.Traces.{count_of, trace_at}
use Rattle.frame_cut.specs.Volume.{Volume, bytes_of}
use Rattle.bench_rules.specs.State.{State}
use Rattle.many_traces.specs.Fields.{HoldsPlace}

-- a number can be put at the place in each of so many traces from trace a on
abbrev pub EachHolds : Volume → ℕ → ℕ → Place → Type 0
EachHolds v a n place = (k : ℕ) → k < n → HoldsPlace (trace_at v (a + k)) place

-- these bytes are a whole trace, and may stand in the place of trace p: the file is within its limit then
pub record MayReplace (s : State) (p : ℕ) (t : List ℕ) : Type 0 where
  pub first : 1 ≤ p
  pub last : p ≤ count_of s.volume
  pub whole : IsTrace s.volume.head t
  pub small : length (bytes_of s.volume) - length (trace_at s.volume p) + length t ≤ s.limits.bytes
