-- The rows of a time slice: sample k of each trace that has it.
use Rattle.std.specs.Prelude.{ℕ, ℤ, ◌+◌, List, [], ◌∷◌, ◌++◌, map, Option, Some, None}
use Rattle.std.specs.Ordering.{int_cmp, nat_cmp, ordering_then}
use Rattle.std.specs.declared.cmp.Ordering.{Ordering}
use Rattle.field_map.specs.Pairs.{Pairs}
use Rattle.frame_cut.specs.declared.file_head.Head.{Head}
use Rattle.trace_view.specs.Values.{sample_of}
use Rattle.trace_record.specs.Facts.{Facts}
use Rattle.trace_record.specs.OfTrace.{record_of}
use Rattle.key_counts.specs.Rising.{rising, IsRisingOf}
use Rattle.bench_rules.specs.declared.row.Row.{Row}

-- rows by inline, crossline, position and value
abbrev pub row_cmp : Row → Row → Ordering
row_cmp a b =
    ordering_then (int_cmp a.inline b.inline)
    (ordering_then (int_cmp a.crossline b.crossline)
    (ordering_then (nat_cmp a.position b.position) (int_cmp a.value b.value)))

-- the row of the trace at position p, where it has the sample
abbrev pub row_of : ℕ → Facts → Option ℤ → List Row
row_of p f None = []
row_of p f (Some v) = record { inline = f.inline; crossline = f.crossline; position = p; value = v } ∷ []

-- one row for each trace that has the sample, from position p on; each trace stands beside its sample
abbrev pub rows_from : ℕ → List (Facts × Option ℤ) → List Row
rows_from p [] = []
rows_from p (t ∷ ts) = row_of p t.0 t.1 ++ rows_from (p + 1) ts

-- the same in rising order
abbrev pub slice_rows : List (Facts × Option ℤ) → List Row
slice_rows ts = rising row_cmp (rows_from 1 ts)

-- the list is strictly rising, with exactly one row for each trace that has the sample
abbrev pub IsSlice : List (Facts × Option ℤ) → List Row → Type 0
IsSlice ts rows = IsRisingOf row_cmp (rows_from 1 ts) rows

-- each trace's facts beside its sample k, counted from 0
abbrev pub with_sample : Head → Pairs → ℕ → List (List ℕ) → List (Facts × Option ℤ)
with_sample h fields k traces = map (λ t. (record_of h fields t, sample_of h t k)) traces

-- slice k of a list of traces
abbrev pub slice_of : Head → Pairs → ℕ → List (List ℕ) → List Row
slice_of h fields k traces = slice_rows (with_sample h fields k traces)
