-- The cell that a search among cells in order finds.
use Rattle.std.specs.Prelude.{◌≡◌, ℕ, ℤ, ◌<◌, ◌&&◌, Bool, true, false, List, [], ◌∷◌, find, length, Some, None, refl, zero, suc}
use Rattle.std.proofs.Common.{arith, sym, ap, ◌∙◌, Less, Equal, Greater, is_lt, is_eq, get_or, add-one, inl, inr, Result, Ok, Err, IfOk, IfErr}
use Rattle.std.specs.Cmp.{Equal-is}
use Rattle.std.specs.Ordering.{int_cmp, int_eq, ordering_then, ordering_reverse, ordering_index}
use Rattle.std.specs.List.{AllByRecursion}
use Rattle.std.specs.List.Sorted.{IsStrictlySortedBy, IsPartitionPoint, IsNonDecreasingBy, IsSearchInRange, IsBinarySearchResult, IsSortedByKey}
use Rattle.std.proofs.lemmas.Bool.{cases_lt}
use Rattle.std.proofs.lemmas.Cmp.{alike_right}
use Rattle.std.proofs.lemmas.List.Sorted.{searchable_from_sorted}
use Rattle.key_counts.proofs.KeyLemmas.{is_eq-pair}
use Rattle.cell_positions.specs.declared.cell.Cell.{Cell}
use Rattle.cell_positions.specs.Cells.{line_cmp}
use Rattle.survey_cells.specs.declared.cells.SurveyCell.{SurveyCell}
use Rattle.survey_cells.specs.Held.{cell_in, HeldRise}
use Rattle.survey_cells.proofs.CellLemmas.{line_total}

all_at : {X : Type 0} (P : X → Type 0) (xs : List X) → AllByRecursion P xs → (k : ℕ) (d : X) → k < length xs → P (get_or xs k d)
all_at P [] all k d h = absurd (omega arith)
all_at P (x ∷ xs) all zero d h = all.0
all_at P (x ∷ xs) all (suc k) d h = all_at P xs all.1 k d (omega arith)

next_above : (cs : List SurveyCell) → HeldRise cs → (k : ℕ) (d : SurveyCell) → suc k < length cs → line_cmp (cell_in (get_or cs k d)) (cell_in (get_or cs (suc k) d)) ≡ Less
unfolding IsStrictlySortedBy
next_above [] up k d h = absurd (omega arith)
next_above (x ∷ cs) up zero d h = all_at (λ y. line_cmp (cell_in x) (cell_in y) ≡ Less) cs up.0 zero d (omega arith)
next_above (x ∷ cs) up (suc k) d h = next_above cs up.1 k d (omega arith)

sorted_lines : (cs : List SurveyCell) → HeldRise cs → IsSortedByKey cell_in line_cmp cs
sorted_lines cs up k d low high = rw add-one (ap is_lt (line_total.antisymm (cell_in (get_or cs (suc k) d)) (cell_in (get_or cs k d)) ∙ ap ordering_reverse (next_above cs up k d (omega arith))))

module _ (i c : ℤ) where
  -- a cell there
  abbrev pub sought : Cell
  sought = record { inline = i; crossline = c; trace = 0 }

  abbrev is_there : SurveyCell → Bool
  is_there d = int_eq d.inline i && int_eq d.crossline c

  there : (d : SurveyCell) (b : Bool) → is_eq (line_cmp (cell_in d) sought) ≡ b → is_there d ≡ b
  there d b e = sym (is_eq-pair (int_cmp d.inline i) (int_cmp d.crossline c)) ∙ e

  -- what is there is found
  pub found : (cs : List SurveyCell) → HeldRise cs → (k : ℕ) → k < length cs → (d : SurveyCell) → line_cmp (cell_in (get_or cs k d)) sought ≡ Equal → Some (get_or cs k d) ≡ find is_there cs
  unfolding IsStrictlySortedBy
  found [] up k h d e = absurd (omega arith)
  found (x ∷ cs) up zero h d e = rw (there x true (ap is_eq e)) refl
  found (x ∷ cs) up (suc k) h d e =
      let below : line_cmp (cell_in x) (cell_in (get_or cs k d)) ≡ Less = all_at (λ y. line_cmp (cell_in x) (cell_in y) ≡ Less) cs up.0 k d (omega arith) in
      let less : line_cmp (cell_in x) sought ≡ Less = sym (alike_right line_total (cell_in (get_or cs k d)) sought (cell_in x) e) ∙ below in
      rw (there x false (ap is_eq less)) (found cs up.1 k (omega arith) d e)

  absent : (cs : List SurveyCell) → ((k : ℕ) (d : SurveyCell) → k < length cs → is_eq (line_cmp (cell_in (get_or cs k d)) sought) ≡ false) → None ≡ find is_there cs
  absent [] h = refl
  absent (x ∷ cs) h = rw (there x false (h 0 x (omega arith))) (absent cs (λ k d b. h (suc k) d (omega arith)))

  -- where a search ends between those below and those above none is there
  not_found : (cs : List SurveyCell) → HeldRise cs → (k : ℕ)
      → (IsNonDecreasingBy (λ y. ordering_index (ordering_then (int_cmp y.inline i) (int_cmp y.crossline c))) cs
      → IsPartitionPoint (λ y. ordering_then (int_cmp y.inline i) (int_cmp y.crossline c) ≡ Less) (λ y. ordering_then (int_cmp y.inline i) (int_cmp y.crossline c) ≡ Greater) cs k)
      → None ≡ find is_there cs
  not_found cs up k parted =
      let parts = parted (searchable_from_sorted line_total cell_in cs sought (sorted_lines cs up)) in
      absent cs (λ j d b. elim (cases_lt j k) [ inl low ↦ ap is_eq (parts.0 j d (omega arith) low) | inr high ↦ ap is_eq (parts.1 j d high b) ])

  pub equal_there : (d : SurveyCell) → is_there d ≡ true → line_cmp (cell_in d) sought ≡ Equal
  equal_there d t = (Equal-is (line_cmp (cell_in d) sought)).0 (is_eq-pair (int_cmp d.inline i) (int_cmp d.crossline c) ∙ t)

  -- what a search by inline and crossline ends with
  pub searched : (cs : List SurveyCell) → HeldRise cs → (r : Result ℕ ℕ) → IsSearchInRange r (length cs)
      → IsBinarySearchResult (λ y. ordering_then (int_cmp y.inline i) (int_cmp y.crossline c)) cs r
      → record { bound : IfOk r (λ k. k < length cs); found : IfOk r (λ k. (d : SurveyCell) → Some (get_or cs k d) ≡ find is_there cs); absent : IfErr r (λ k. None ≡ find is_there cs) }
  searched cs up (Ok k) in_range equal = record { bound = in_range; found = λ d. found cs up k in_range d (equal d); absent = tt }
  searched cs up (Err k) in_range parted = record { bound = tt; found = tt; absent = not_found cs up k parted }
