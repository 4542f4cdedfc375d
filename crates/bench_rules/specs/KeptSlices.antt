-- The slices that are kept, at most as many as there is room for: each a sample number with what is kept of its rows, the last asked first.
-- Inline and crossline of a row are those of its trace, so that its position and its sample are all that is kept of it.
use Rattle.std.specs.Prelude.{◌≡◌, ℕ, ℤ, ◌+◌, ◌-◌, ◌==◌, ◌&&◌, nat_le, nat_lt, Bool, not, List, [], ◌∷◌, All, map, flat_map, take, filter, slice_get, Option, MatchOption, Some, refl}
use Rattle.std.specs.Coded.{Coded, code_by, coded×, coded_list, coded_ℕ, coded_ℤ}
use Rattle.std.specs.List.{list_any}
use Rattle.std.specs.Map.{lookup}
use Rattle.std.specs.Option.{option_map_or}
use Rattle.field_map.specs.Pairs.{Pairs}
use Rattle.frame_cut.specs.declared.file_head.Head.{Head}
use Rattle.trace_record.specs.Facts.{Facts}
use Rattle.trace_record.specs.declared.record.Record.{Record}
use Rattle.bench_rules.specs.declared.row.Row.{Row}
use Rattle.bench_rules.specs.SlicesOfRecords.{with_sample_of}
use Rattle.bench_rules.specs.Slices.{row_of, slice_rows, slice_of}

-- ---- what is kept of rows

-- the position and the sample of each row
abbrev pub kept_of : List Row → List (ℕ × ℤ)
kept_of rows = map (λ r. (r.position, r.value)) rows

-- the row of a position, counted from 1, and a sample, where there is such a trace
abbrev pub row_again : List Facts → ℕ × ℤ → List Row
row_again facts e = option_map_or (λ f. row_of e.0 f (Some e.1)) (slice_get facts (e.0 - 1)) []

-- the rows of which this is kept, where these are the facts of the traces
abbrev pub rows_again : List Facts → List (ℕ × ℤ) → List Row
rows_again facts kept = flat_map (row_again facts) kept

-- ---- what is kept of slices

-- sample numbers, each with what is kept of the rows of its slice
abbrev pub Cache : Type 0
Cache = List (ℕ × List (ℕ × ℤ))

-- the numbers of the slices that are kept
abbrev pub kept_numbers : Cache → List ℕ
kept_numbers cache = map (λ e. e.0) cache

-- slice k is kept
abbrev pub keeps : ℕ → Cache → Bool
keeps k cache = list_any (λ j. j == k) (kept_numbers cache)

-- what is kept of the rows of slice k, where it is kept
abbrev pub kept_rows : ℕ → Cache → Option (List (ℕ × ℤ))
kept_rows k cache = lookup (λ j. j == k) cache

-- what is kept after slice k was asked for and answered with these rows, where there is room for so many: it comes first, and the last goes
-- where there would be one too many
abbrev pub cache_after_slice : ℕ → ℕ → List Row → Cache → Cache
cache_after_slice room k rows cache = take room ((k, kept_of rows) ∷ filter (λ e. not (e.0 == k)) cache)

-- the number is that of one of so many samples from k on
abbrev pub is_from : ℕ → ℕ → ℕ → Bool
is_from k many j = nat_le k j && nat_lt j (k + many)

-- what is kept after so many samples from k on changed
abbrev pub cache_after_change : ℕ → ℕ → Cache → Cache
cache_after_change k many cache = filter (λ e. not (is_from k many e.0)) cache

-- ---- kept slices are right

-- what is kept under this number is kept of the rows of its slice
abbrev pub IsRight : Head → Pairs → List (List ℕ) → ℕ × List (ℕ × ℤ) → Type 0
IsRight h fields traces e = e.1 ≡ kept_of (slice_of h fields e.0 traces)

-- each kept slice is the slice of the traces
abbrev pub AreRight : Head → Pairs → List (List ℕ) → Cache → Type 0
AreRight h fields traces cache = All (IsRight h fields traces) cache

-- what is kept under this number is kept of the rows that the records of the traces give
abbrev pub IsRightOf : Head → List Record → List (List ℕ) → ℕ × List (ℕ × ℤ) → Type 0
IsRightOf h records traces e = e.1 ≡ kept_of (slice_rows (with_sample_of h e.0 records traces))

-- each kept slice is the one that the records of the traces give
abbrev pub AreRightOf : Head → List Record → List (List ℕ) → Cache → Type 0
AreRightOf h records traces cache = All (IsRightOf h records traces) cache

-- ---- with the room for them

-- the slices that are kept, and how many there is room for
pub record KeptSlices : Type 0 where
  pub entries : Cache
  pub capacity : ℕ

-- none is kept, with room for so many
abbrev pub none_kept : ℕ → KeptSlices
none_kept room = record { entries = []; capacity = room }

-- after slice k was asked for and answered with these rows
abbrev pub after_slice : KeptSlices → ℕ → List Row → KeptSlices
after_slice kept k rows = record { entries = cache_after_slice kept.capacity k rows kept.entries; capacity = kept.capacity }

-- slice k comes first after it was asked for and answered with these rows: what was kept of it is, or where nothing was, the rows of the answer
pub record IsAsked (old new : KeptSlices) (k : ℕ) (answer : List Row) : Type 0 where
  pub rows : List Row
  pub same : MatchOption (kept_rows k old.entries) (rows ≡ answer) (λ e. kept_of rows ≡ e)
  pub kept : new ≡ after_slice old k rows

-- after so many samples from k on changed
abbrev pub after_change : KeptSlices → ℕ → ℕ → KeptSlices
after_change kept k many = record { entries = cache_after_change k many kept.entries; capacity = kept.capacity }

-- the same as a pair, for the logic that stores it
abbrev pub kept_slices_code : Coded KeptSlices
kept_slices_code =
    code_by (Cache × ℕ) (coded× (coded_list (coded× coded_ℕ (coded_list (coded× coded_ℕ coded_ℤ)))) coded_ℕ)
    (λ s. (s.entries, s.capacity)) (λ p. record { entries = p.0; capacity = p.1 }) (λ _. refl)
