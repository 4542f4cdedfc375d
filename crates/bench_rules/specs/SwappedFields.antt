-- Two numbers of a trace in the place of one another.
use Rattle.std.specs.Prelude.{ℕ, ◌&&◌, not, List, [], ◌∷◌, Option, Some, option_map, option_and_then, if◌then◌else◌}
use Rattle.std.specs.Option.{option_or}
use Rattle.field_map.specs.declared.place.Place.{Place}
use Rattle.field_map.specs.Pairs.{Pairs}
use Rattle.frame_cut.specs.declared.file_head.Head.{Head}
use Rattle.frame_cut.specs.Traces.{trace_at, with_trace}
use Rattle.frame_cut.specs.Volume.{Volume}
use Rattle.trace_view.specs.Values.{has_place, value_at}
use Rattle.bench_rules.specs.declared.field.Field.{Field}
use Rattle.bench_rules.specs.declared.refusal.Refusal.{Refusal}
use Rattle.bench_rules.specs.declared.refusal.Refusal.TheVariants as refusals
use Rattle.bench_rules.specs.Places.{place_in_trace}
use Rattle.bench_rules.specs.SetRefusals.{set_refusal, with_value}

-- the places of two fields, where each has one
abbrev pub two_places : Pairs → Field → Field → Option (Place × Place)
two_places fields first second = option_and_then (λ a. option_map (λ b. (a, b)) (place_in_trace fields second)) (place_in_trace fields first)

-- the trace with the second place's number over the first place
abbrev pub half_swapped : Head → Place × Place → List ℕ → List ℕ
half_swapped h places t = with_value h t places.0 (value_at h t places.1)

-- the trace with the second place's number over the first place, and then the first's, as it was, over the second
abbrev pub swapped : Head → Place × Place → List ℕ → List ℕ
swapped h places t = with_value h (half_swapped h places t) places.1 (value_at h t places.0)

-- the refusal of the two sets, one after another: E03 where the trace lacks one of the places
abbrev pub swap_refusal : Head → Place × Place → List ℕ → Option Refusal
swap_refusal h places t =
    if not (has_place h t places.0 && has_place h t places.1) then Some refusals.NoPlace else
    option_or (set_refusal h t (Some places.0) (value_at h t places.1)) (set_refusal h (half_swapped h places t) (Some places.1) (value_at h t places.0))

-- the volume with each of the traces at these positions changed, one after another
abbrev pub changed_each : (List ℕ → List ℕ) → Volume → List ℕ → Volume
changed_each change v [] = v
changed_each change v (p ∷ ps) = changed_each change (with_trace v p (change (trace_at v p))) ps
