-- Slices that are kept, worked by hand.
use Rattle.std.specs.Prelude.{◌≡◌, ℕ, ℤ, List, [], ◌∷◌, map, pos, negsuc, true, false, Some, None, refl}
use Rattle.std.proofs.lemmas.List.Elements.{All-cons, All-nil}
use Rattle.field_map.specs.Binding.{geometry_at_load}
use Rattle.frame_cut.specs.SmallFiles.{head_plain, trace_plain_1}
use Rattle.trace_record.specs.SmallSurvey.{trace_1, trace_2, trace_3}
use Rattle.bench_rules.specs.declared.row.Row.{Row}
use Rattle.bench_rules.specs.KeptSlices.{Cache, kept_of, rows_again, keeps, kept_numbers, kept_rows, cache_after_slice, cache_after_change, IsRight, AreRight}

-- one row
abbrev row : List Row
row = record { inline = pos 10; crossline = pos 21; position = 1; value = negsuc 1 } ∷ []

-- what is kept of it: the sample is -2
abbrev kept : List (ℕ × ℤ)
kept = (1, negsuc 1) ∷ []

-- slices 5, 1 and 0, of which slice 1 has a row
abbrev three : Cache
three = (5, []) ∷ (1, kept) ∷ (0, []) ∷ []

-- eight slices without rows
abbrev eight : Cache
eight = map (λ k. (k, [])) (8 ∷ 7 ∷ 6 ∷ 5 ∷ 4 ∷ 3 ∷ 2 ∷ 1 ∷ [])

pub kept-row : kept_of row ≡ kept
kept-row = refl

-- the rows of the third and the first of three traces
pub row-again : rows_again (trace_1 ∷ trace_2 ∷ trace_3 ∷ []) ((3, pos 6) ∷ (1, negsuc 1) ∷ [])
    ≡ record { inline = pos 10; crossline = pos 23; position = 3; value = pos 6 }
    ∷ record { inline = pos 10; crossline = pos 21; position = 1; value = negsuc 1 } ∷ []
row-again = refl

-- a kept slice comes first again
pub asked-again : cache_after_slice 8 1 row three ≡ (1, kept) ∷ (5, []) ∷ (0, []) ∷ []
asked-again = refl

-- the ninth goes
pub asked-ninth : kept_numbers (cache_after_slice 8 9 row eight) ≡ 9 ∷ 8 ∷ 7 ∷ 6 ∷ 5 ∷ 4 ∷ 3 ∷ 2 ∷ []
asked-ninth = refl

-- samples 0 and 1 changed
pub forgotten-two : cache_after_change 0 2 three ≡ (5, []) ∷ []
forgotten-two = refl

-- no sample changed
pub forgotten-none : cache_after_change 1 0 three ≡ three
forgotten-none = refl

pub rows-kept : kept_rows 1 three ≡ Some kept
rows-kept = refl

pub rows-not_kept : kept_rows 2 three ≡ None
rows-not_kept = refl

pub keeps-1 : keeps 1 three ≡ true
keeps-1 = refl

pub keeps-2 : keeps 2 three ≡ false
keeps-2 = refl

-- the row is that of sample 1 of the first trace
pub right-1 : AreRight head_plain geometry_at_load (trace_plain_1 ∷ []) ((1, kept) ∷ [])
right-1 = All-cons (IsRight head_plain geometry_at_load (trace_plain_1 ∷ [])) (1, kept) [] refl (All-nil (IsRight head_plain geometry_at_load (trace_plain_1 ∷ [])))
