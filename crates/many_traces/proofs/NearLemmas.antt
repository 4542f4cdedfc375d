-- The rows of a table in order, by their numbers: what a stable sort leaves.
use Rattle.std.proofs.Common.{All, ◌≡◌, ◌∙◌, ◌-◌, ◌<◌, min, ℕ, ℤ, Bool, List, [], ◌∷◌, length, map, get_or, refl, sym, ap, arith}
use Rattle.std.specs.Cmp.{IsStrictWeakOrder}
use Rattle.std.specs.List.{range_with_len}
use Rattle.std.specs.List.Sorted.{IsSortedBy, IsStableBy}
use Rattle.std.proofs.lemmas.List.Elements.{All-get_or}
use Rattle.std.proofs.lemmas.List.FromFn.{fill_by_all}
use Rattle.bench_rules.specs.Sorted.{in_order}
use Rattle.bench_rules.proofs.InOrderLemmas.{ordered, sorted-ordered}
use Rattle.bench_rules.proofs.RowOrderLemmas.{is_before, rows-ordered, rows-weak}
use Rattle.many_traces.specs.Arranged.{row_near}

-- a number that is no row stands for the last one, so that all have one length
near-inside : (n x : ℕ) → 0 < n → min x (n - 1) < n
near-inside n x some = omega (arith, some)

wide-near : (rows : List (ℕ × List ℤ)) (width : ℕ) → All (λ row. length row.1 ≡ width) rows → (w : ℕ) × ((x : ℕ) → length (row_near rows x).1 ≡ w)
wide-near [] width all = (0, λ x. refl)
wide-near (row ∷ rows) width all =
    (width, λ x. All-get_or (λ r. length r.1 ≡ width) (row ∷ rows) (min x (length (row ∷ rows) - 1)) (0, []) (near-inside (length (row ∷ rows)) x (omega arith)) all)

rows-named : (rows : List (ℕ × List ℤ)) → rows ≡ map (row_near rows) (range_with_len 0 (length rows))
rows-named rows =
    fill_by_all (row_near rows) rows (length rows) (0, []) refl (λ k less.
    let itself : k ≡ min k (length rows - 1) = omega (arith, less) in
    ap (λ i. get_or rows i (0, [])) itself)

-- what a stable sort of the numbers of rows leaves are the rows in order
pub sorted-rows : (falls : List Bool) (rows : List (ℕ × List ℤ)) (width : ℕ) (before order : List ℕ) → All (λ row. length row.1 ≡ width) rows → before ≡ range_with_len 0 (length rows)
    → (IsStrictWeakOrder (is_before falls (row_near rows)) → IsSortedBy (is_before falls (row_near rows)) order) → (IsStrictWeakOrder (is_before falls (row_near rows)) → IsStableBy (is_before falls (row_near rows)) before order)
    → in_order falls rows ≡ map (row_near rows) order
sorted-rows falls rows width before order all from up stable =
    let wide = wide-near rows width all in
    let weak = rows-weak falls (row_near rows) wide.0 wide.1 in
    let is : order ≡ ordered (is_before falls (row_near rows)) before = sorted-ordered (is_before falls (row_near rows)) weak before order (up weak) (stable weak) in
    ap (in_order falls) (rows-named rows) ∙ (rows-ordered falls (row_near rows) (range_with_len 0 (length rows)) ∙ ap (map (row_near rows)) (sym (is ∙ ap (ordered (is_before falls (row_near rows))) from)))
