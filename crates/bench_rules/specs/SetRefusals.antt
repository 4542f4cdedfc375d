-- The refusal of a value at a place of a trace.
use Rattle.std.specs.Prelude.{ℕ, ◌==◌, Bool, not, false, ℤ, List, length, Option, Some, None, if◌then◌else◌}
use Rattle.num_order.specs.Number.{bytes, fits}
use Rattle.field_map.specs.declared.place.Place.{Place}
use Rattle.field_map.specs.Places.{offset_of}
use Rattle.frame_cut.specs.declared.file_head.Head.{Head}
use Rattle.frame_cut.specs.Splice.{splice}
use Rattle.frame_cut.specs.Frames.{trace_length}
use Rattle.trace_view.specs.Values.{has_place}
use Rattle.bench_rules.specs.declared.refusal.Refusal.{Refusal}
use Rattle.bench_rules.specs.declared.refusal.Refusal.TheVariants as refusals

-- the trace with the value over the place
abbrev pub with_value : Head → List ℕ → Place → ℤ → List ℕ
with_value h t place x = splice t (offset_of place) place.kind.size (bytes h.order place.kind x)

-- the length is this one
abbrev pub is_length : Option ℕ → ℕ → Bool
is_length None n = false
is_length (Some m) n = m == n

-- with the value over the place the trace's headers give it another length than it has, or none
abbrev pub changes_length : Head → List ℕ → Place → ℤ → Bool
changes_length h t place x = not (is_length (trace_length h (with_value h t place x)) (length t))

-- the refusal of a value at the place that a field of the trace has, if it has one
abbrev pub set_refusal : Head → List ℕ → Option Place → ℤ → Option Refusal
set_refusal h t None x = Some refusals.NoField
set_refusal h t (Some place) x =
    if not (has_place h t place) then Some refusals.NoPlace else
    if not (fits place.kind x) then Some refusals.DoesNotFit else
    if changes_length h t place x then Some refusals.Frame else None
