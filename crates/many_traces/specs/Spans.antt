-- Where two places of a trace lie together, and the bytes that many traces get there where the numbers of the two places change places.
use Rattle.std.specs.Prelude.{◌≡◌, ℕ, ◌+◌, ◌-◌, ◌<◌, ◌≤◌, min, max, List, length, get_or}
use Rattle.field_map.specs.declared.place.Place.{Place}
use Rattle.field_map.specs.Places.{offset_of}
use Rattle.frame_cut.specs.Splice.{splice}
use Rattle.frame_cut.specs.Traces.{trace_at}
use Rattle.frame_cut.specs.Volume.{Volume}
use Rattle.trace_store.specs.Each.{part_of}
use Rattle.bench_rules.specs.SwappedFields.{swapped}

-- where the first of them begins, counted from 0 in the trace
abbrev pub span_start : Place × Place → ℕ
span_start places = min (offset_of places.0) (offset_of places.1)

-- how many bytes there are up to the end of the last of them
abbrev pub span_size : Place × Place → ℕ
span_size places = max (offset_of places.0 + places.0.kind.size) (offset_of places.1 + places.1.kind.size) - span_start places

-- some bytes of the trace lie there
abbrev pub HasSpan : Place × Place → List ℕ → Type 0
HasSpan places t = (0 < span_size places) × (span_start places + span_size places ≤ length t)

-- all of the traces have them
abbrev pub HaveSpan : Volume → Place × Place → List ℕ → Type 0
HaveSpan v places traces = (k : ℕ) → k < length traces → HasSpan places (trace_at v (get_or traces k 0))

-- part k of the bytes makes of the k-th of these traces the one with the two numbers in the place of one another
abbrev pub AreSwapped : Volume → Place × Place → List ℕ → List ℕ → Type 0
AreSwapped v places traces bytes =
    (k : ℕ) → k < length traces → splice (trace_at v (get_or traces k 0)) (span_start places) (span_size places) (part_of bytes (span_size places) k) ≡ swapped v.head places (trace_at v (get_or traces k 0))
