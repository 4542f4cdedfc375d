-- Refusals of traces that are not there, and the first refusal of values of many traces. Traces are counted from 1.
use Rattle.std.specs.Prelude.{ℕ, ℤ, ◌&&◌, nat_le, List, [], ◌∷◌, Option, Some, None, if◌then◌else◌}
use Rattle.std.specs.Option.{option_or}
use Rattle.field_map.specs.declared.place.Place.{Place}
use Rattle.frame_cut.specs.Traces.{count_of, is_trace, trace_at}
use Rattle.frame_cut.specs.Volume.{Volume}
use Rattle.bench_rules.specs.declared.refusal.Refusal.{Refusal}
use Rattle.bench_rules.specs.declared.refusal.Refusal.TheVariants as refusals
use Rattle.bench_rules.specs.SetRefusals.{set_refusal}

-- there is no trace p
abbrev pub no_trace : Volume → ℕ → Option Refusal
no_trace v p = if is_trace v p then None else Some (refusals.NoTrace p (count_of v))

-- trace b is none of those from trace a on
abbrev pub no_trace_from : Volume → ℕ → ℕ → Option Refusal
no_trace_from v a b = if nat_le a b && nat_le b (count_of v) then None else Some (refusals.NoTrace b (count_of v))

-- the refusal of a range of traces: of its first, then of its last; where there is no range there is none
abbrev pub range_refusal : Volume → Option (ℕ × ℕ) → Option Refusal
range_refusal v None = None
range_refusal v (Some r) = option_or (no_trace v r.0) (no_trace_from v r.0 r.1)

-- the first refusal of these values, each at the place that a field of its trace has, if it has one; each in the file as it is
abbrev pub first_refusal_among : Volume → Option Place → List (ℕ × ℤ) → Option Refusal
first_refusal_among v place [] = None
first_refusal_among v place (n ∷ ns) = option_or (set_refusal v.head (trace_at v n.0) place n.1) (first_refusal_among v place ns)
