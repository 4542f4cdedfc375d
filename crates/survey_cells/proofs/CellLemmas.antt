-- The cells of traces, in order.
use Rattle.std.specs.Prelude.{◌≡◌, ℕ, ℤ, ◌+◌, ◌<◌, true, false, Bool, cond, List, [], ◌∷◌, length, map, refl}
use Rattle.std.proofs.Common.{arith, sym, ap, subst, Ordering, Less, Equal, Greater, is_lt, IsPermutation, IsSorted, get_or}
use Rattle.std.specs.Ordering.{int_cmp, nat_cmp, ordering_then}
use Rattle.std.specs.Cmp.{IsTotalOrder, int_cmp_total, then_total, on_total}
use Rattle.std.specs.List.{dedup, dedup_from}
use Rattle.std.specs.List.Sorted.{IsSortedByKey}
use Rattle.std.proofs.lemmas.Cmp.{nat_cmp_total}
use Rattle.std.proofs.lemmas.List.{get_or-map, length-map}
use Rattle.std.proofs.lemmas.List.Kept.{IsStrictlySortedBy-dedup}
use Rattle.std.proofs.lemmas.List.Sorted.{IsPermutation-map}
use Rattle.std.proofs.lemmas.Map.Lookups.{CmpEqualImpliesEq, exact_signed, exact_unsigned, exact_pairs}
use Rattle.key_counts.proofs.KeyLemmas.{is_eq-pair}
use Rattle.cell_positions.specs.declared.cell.Cell.{Cell}
use Rattle.cell_positions.specs.InOrder.{in_order}
use Rattle.cell_positions.specs.Cells.{cell_cmp, line_cmp, is_same}
use Rattle.survey_cells.specs.declared.cells.SurveyCell.{SurveyCell}
use Rattle.survey_cells.specs.Held.{cell_in, HeldRise}
use Rattle.survey_cells.proofs.OrderLemmas.{sorted_is}

cell_total : IsTotalOrder cell_cmp
cell_total = then_total (on_total (λ (c : Cell). c.inline) int_cmp_total) (then_total (on_total (λ (c : Cell). c.crossline) int_cmp_total) (on_total (λ (c : Cell). c.trace) nat_cmp_total))

pub line_total : IsTotalOrder line_cmp
line_total = then_total (on_total (λ (c : Cell). c.inline) int_cmp_total) (on_total (λ (c : Cell). c.crossline) int_cmp_total)

with_parts : ℤ × (ℤ × ℕ) → Cell
with_parts p = record { inline = p.0; crossline = p.1.0; trace = p.1.1 }

exact_cells : CmpEqualImpliesEq cell_cmp
unfolding with_parts
exact_cells a b e =
    ap with_parts (exact_pairs int_cmp (λ (p q : ℤ × ℕ). ordering_then (int_cmp p.0 q.0) (nat_cmp p.1 q.1)) exact_signed (exact_pairs int_cmp nat_cmp exact_signed exact_unsigned) (a.inline, (a.crossline, a.trace)) (b.inline, (b.crossline, b.trace)) e)

-- what is sorted by what is made of each is sorted so once that is made
pub sorted-map : {X Y : Type 0} (f : X → Y) (cmp : Y → Y → Ordering) (xs : List X) → IsSortedByKey f cmp xs → IsSorted cmp (map f xs)
sorted-map f cmp [] sorted k d low high = absurd (omega arith)
sorted-map {X} {Y} f cmp (x ∷ xs) sorted k d low high =
    let short : k + 1 < length (x ∷ xs) = subst (λ (n : ℕ). k + 1 < n) (length-map (x ∷ xs) f) high in
    let before = get_or-map f (x ∷ xs) k x d (omega arith) in
    let here = get_or-map f (x ∷ xs) (k + 1) x d (omega arith) in
    rw (before, here) (sorted k x (omega arith) short)

-- what a sort by key leaves of cells, without their positions, is the list in order
pub sorted_held : (xs ys : List SurveyCell) → IsPermutation xs ys → IsSortedByKey cell_in cell_cmp ys → map cell_in ys ≡ in_order cell_cmp (map cell_in xs)
sorted_held xs ys same sorted =
    sorted_is cell_cmp cell_total exact_cells (map cell_in xs) (map cell_in ys) (IsPermutation-map cell_in xs ys same) (sorted-map cell_in cell_cmp ys sorted)

-- both have one inline and one crossline
abbrev pub is_same_held : SurveyCell → SurveyCell → Bool
is_same_held a b = is_same (cell_in a) (cell_in b)

dedup_from-held : (k : SurveyCell) (xs : List SurveyCell) → map cell_in (dedup_from is_same_held k xs) ≡ dedup_from is_same (cell_in k) (map cell_in xs)
dedup_from-held k [] = refl
dedup_from-held k (x ∷ xs) =
    elim (is_same_held x k) as (λ b. map cell_in (cond b (dedup_from is_same_held k xs) (k ∷ dedup_from is_same_held x xs))
    ≡ cond b (dedup_from is_same (cell_in k) (map cell_in xs)) (cell_in k ∷ dedup_from is_same (cell_in x) (map cell_in xs))) [
      | true ↦ dedup_from-held k xs
      | false ↦ ap (λ (l : List Cell). cell_in k ∷ l) (dedup_from-held x xs)
    ]

-- the first trace of each cell stays the same without the positions
pub dedup-held : (xs : List SurveyCell) → map cell_in (dedup is_same_held xs) ≡ dedup is_same (map cell_in xs)
dedup-held [] = refl
dedup-held (x ∷ xs) = dedup_from-held x xs

lines_too : (a b t : Ordering) → is_lt (ordering_then a (ordering_then b t)) ≡ false → is_lt (ordering_then a b) ≡ false
lines_too Less b t h = h
lines_too Equal Less t h = h
lines_too Equal Equal t h = refl
lines_too Equal Greater t h = refl
lines_too Greater b t h = refl

held_total : IsTotalOrder (λ a b. line_cmp (cell_in a) (cell_in b))
held_total = on_total cell_in line_total

-- the first of each cell rise
pub firsts_rise : (ys : List SurveyCell) → IsSortedByKey cell_in cell_cmp ys → HeldRise (dedup is_same_held ys)
firsts_rise ys sorted =
    IsStrictlySortedBy-dedup held_total (λ x y. sym (is_eq-pair (int_cmp x.inline y.inline) (int_cmp x.crossline y.crossline))) ys
    (λ k d p q.
    let c = get_or ys (k + 1) d in
    let e = get_or ys k d in
    lines_too (int_cmp c.inline e.inline) (int_cmp c.crossline e.crossline) (nat_cmp c.trace e.trace) (sorted k d p q))
