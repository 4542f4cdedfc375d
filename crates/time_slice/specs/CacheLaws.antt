-- Laws of kept slices: how their numbers follow one another, that they stay right, and that their rows are got back.
use Rattle.std.specs.Prelude.{◌≡◌, ℕ, ◌==◌, ◌↔◌, not, List, ◌∷◌, map, take, filter}
use Rattle.field_map.specs.Pairs.{Pairs}
use Rattle.frame_cut.specs.declared.file_head.Head.{Head}
use Rattle.trace_record.specs.Facts.{facts_of}
use Rattle.trace_record.specs.OfTrace.{record_of}
use Rattle.trace_record.specs.declared.record.Record.{Record}
use Rattle.bench_rules.specs.declared.row.Row.{Row}
use Rattle.bench_rules.specs.Slices.{slice_of}
use Rattle.bench_rules.specs.KeptSlices.{Cache, kept_of, rows_again, kept_numbers, cache_after_slice, is_from, cache_after_change, AreRight, AreRightOf}

-- after slice k was asked for its number comes first, the others follow as they were, and the last goes where there would be one too many
abbrev pub NumbersAfterAsked : Type 0
NumbersAfterAsked = (room k : ℕ) (rows : List Row) (cache : Cache) → kept_numbers (cache_after_slice room k rows cache) ≡ take room (k ∷ filter (λ j. not (j == k)) (kept_numbers cache))

-- after some samples changed their numbers go, and the others stay in their order
abbrev pub NumbersAfterForgotten : Type 0
NumbersAfterForgotten = (k many : ℕ) (cache : Cache) → kept_numbers (cache_after_change k many cache) ≡ filter (λ j. not (is_from k many j)) (kept_numbers cache)

-- right slices are right after one was asked for and answered with its rows
abbrev pub AskedStaysRight : Type 0
AskedStaysRight = (h : Head) (fields : Pairs) (traces : List (List ℕ)) (room k : ℕ) (cache : Cache)
    → AreRight h fields traces cache → AreRight h fields traces (cache_after_slice room k (slice_of h fields k traces) cache)

-- right slices are right after some were forgotten
abbrev pub ForgottenStaysRight : Type 0
ForgottenStaysRight = (h : Head) (fields : Pairs) (traces : List (List ℕ)) (k many : ℕ) (cache : Cache)
    → AreRight h fields traces cache → AreRight h fields traces (cache_after_change k many cache)

-- the rows of a slice are got back from what is kept of them and the facts of the traces
abbrev pub RowsComeBack : Type 0
RowsComeBack = (h : Head) (fields : Pairs) (k : ℕ) (traces : List (List ℕ))
    → rows_again (map (record_of h fields) traces) (kept_of (slice_of h fields k traces)) ≡ slice_of h fields k traces

-- where each record holds the facts of the trace at its place, the slices that the records give are those of the traces
abbrev pub RightOfRecords : Type 0
RightOfRecords = (h : Head) (fields : Pairs) (records : List Record) (traces : List (List ℕ)) (cache : Cache)
    → map facts_of records ≡ map (record_of h fields) traces → AreRightOf h records traces cache ↔ AreRight h fields traces cache
