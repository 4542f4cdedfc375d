-- Laws of slices: there is one, and at most one, and records give that of their traces.
use Rattle.std.specs.Prelude.{◌≡◌, ℕ, ℤ, List, Option, map}
use Rattle.field_map.specs.Pairs.{Pairs}
use Rattle.frame_cut.specs.declared.file_head.Head.{Head}
use Rattle.trace_record.specs.Facts.{Facts, facts_of}
use Rattle.trace_record.specs.OfTrace.{record_of}
use Rattle.trace_record.specs.declared.record.Record.{Record}
use Rattle.bench_rules.specs.declared.row.Row.{Row}
use Rattle.bench_rules.specs.SlicesOfRecords.{with_sample_of}
use Rattle.bench_rules.specs.Slices.{slice_rows, slice_of, IsSlice}

-- the rows that are computed are a slice
abbrev pub SliceIsSlice : Type 0
SliceIsSlice = (ts : List (Facts × Option ℤ)) → IsSlice ts (slice_rows ts)

-- there is at most one slice
abbrev pub AtMostOneSlice : Type 0
AtMostOneSlice = (ts : List (Facts × Option ℤ)) (xs ys : List Row) → IsSlice ts xs → IsSlice ts ys → xs ≡ ys

-- where each record holds the facts of the trace at its place, their rows are the slice of the traces
abbrev pub RowsAreOfTraces : Type 0
RowsAreOfTraces = (h : Head) (fields : Pairs) (k : ℕ) (records : List Record) (traces : List (List ℕ))
    → map facts_of records ≡ map (record_of h fields) traces → slice_rows (with_sample_of h k records traces) ≡ slice_of h fields k traces
