-- Cells of one position are in one group, and are kept where their group's size is known.
use Rattle.std.specs.Prelude.{◌≡◌, ℕ, pos, ◌+◌, ◌-◌, ◌*◌, ◌/◌, ◌%◌, ◌^◌, ◌<◌, ◌≤◌, ◌==◌, ◌+ℤ◌, ◌&&◌, Bool, true, false, cond, List, [], ◌∷◌, length, map, filter, Option, Some, None, slice_get, slice_index, nat_lt, unsigned_abs, refl}
use Rattle.std.proofs.Common.{arith, sym, ap, ◌∙◌, true≢false, is_eq, inl, inr, ◌⊎◌, get_or}
use Rattle.std.specs.List.{AllByRecursion}
use Rattle.std.specs.Option.{option_map_or}
use Rattle.std.specs.Cmp.{Equal-is}
use Rattle.std.proofs.lemmas.Int.{ints}
use Rattle.std.proofs.lemmas.Bool.{lt-ltb}
use Rattle.std.proofs.lemmas.Bool.Decides.{nat_tests}
use Rattle.std.proofs.lemmas.List.Sorted.{sum_by-IsPermutation}
use Rattle.std.proofs.lemmas.List.Sums.{sum_by-cons}
use Rattle.std.proofs.lemmas.Option.{slice_get_cases, get_or_from_slice_get}
use Rattle.key_counts.specs.Parts.{numerator_in, denominator_in}
use Rattle.key_counts.specs.RatioOrder.{ratio_cmp, exact_ratios}
use Rattle.cell_positions.specs.declared.shared.PlacedCell.{PlacedCell}
use Rattle.cell_positions.specs.InOrder.{in_order}
use Rattle.cell_positions.specs.Shared.{placed_cmp, at_one_position, sharing}
use Rattle.survey_cells.specs.Groups.{spread_in, group_in, in_group, IsCountedBy, is_crowded}
use Rattle.survey_cells.proofs.AloneLemmas.{SharesKept, sharing-kept}
use Rattle.survey_cells.proofs.OrderLemmas.{Rises, all_weaker, IsPermutation-in_order}
use Rattle.survey_cells.proofs.PlacedLemmas.{placed_total}

-- a packed coordinate without its flags
pub word_is : (w : ℕ) → w % 2 ^ 62 ≡ unsigned_abs (numerator_in w +ℤ pos (2 ^ 46)) * 2 ^ 15 + (denominator_in w - 1)
word_is w =
    let n : unsigned_abs (numerator_in w +ℤ pos (2 ^ 46)) ≡ w / 2 ^ 15 % 2 ^ 47 = omega (arith, ints) in
    omega arith

both_true : (a b : Bool) → (a && b) ≡ true → (a ≡ true) × (b ≡ true)
both_true true b h = (refl, h)
both_true false b h = absurd (true≢false (sym h))

same_spread : (n : ℕ) (a b : PlacedCell) → a.x ≡ b.x → a.y ≡ b.y → spread_in n a ≡ spread_in n b
unfolding spread_in
same_spread n a b ex ey = rw (ex, ey) refl

same_group : (n : ℕ) (a b : PlacedCell) → at_one_position a b ≡ true → group_in n a ≡ group_in n b
same_group n a b one =
    let parts = both_true (is_eq (ratio_cmp a.x b.x)) (is_eq (ratio_cmp a.y b.y)) one in
    let ex : a.x ≡ b.x = exact_ratios a.x b.x ((Equal-is (ratio_cmp a.x b.x)).0 parts.0) in
    let ey : a.y ≡ b.y = exact_ratios a.y b.y ((Equal-is (ratio_cmp a.y b.y)).0 parts.1) in
    ap (λ s. s / 2 ^ 32 * n / 2 ^ 32) (same_spread n a b ex ey)

module _ (n : ℕ) where
  in_group-cons : (g : ℕ) (c : PlacedCell) (cs : List PlacedCell) → in_group n g (c ∷ cs) ≡ cond (group_in n c == g) 1 0 + in_group n g cs
  in_group-cons g c cs = sum_by-cons (λ d. cond (group_in n d == g) 1 0) c cs

  counts_itself : (g h : ℕ) → h ≡ g → ◌≡◌ {A = ℕ} (cond (h == g) 1 0) 1
  counts_itself g h e = grind (arith, nat_tests)

  -- each is in a group of one or more
  each_in : (cs : List PlacedCell) → AllByRecursion (λ c. 1 ≤ in_group n (group_in n c) cs) cs
  each_in [] = tt
  each_in (c ∷ cs) = (
    omega (arith, in_group-cons (group_in n c) c cs, counts_itself (group_in n c) (group_in n c) refl),
    all_weaker _ _ (λ d more. omega (arith, more, in_group-cons (group_in n d) c cs)) cs (each_in cs),
  )

  module _ (sizes : List ℕ) where
    two_is : (o : Option ℕ) (s : ℕ) → o ≡ Some s → 1 < s → option_map_or (λ t. nat_lt 1 t) o true ≡ true
    two_is o s e h = ap (λ p. option_map_or (λ t. nat_lt 1 t) p true) e ∙ lt-ltb 1 s h

    none_is : (o : Option ℕ) → o ≡ None → option_map_or (λ t. nat_lt 1 t) o true ≡ true
    none_is o e = ap (λ p. option_map_or (λ t. nat_lt 1 t) p true) e

    crowded : (c : PlacedCell) (g : ℕ) → g ≡ group_in n c → (g < length sizes → 2 ≤ slice_index sizes g) → is_crowded n sizes c ≡ true
    crowded c g e h = ap (λ k. option_map_or (λ s. nat_lt 1 s) (slice_get sizes k) true) (sym e) ∙ go (slice_get_cases sizes g).1
      where
        go : ((s : ℕ) × (g < length sizes) × (slice_get sizes g ≡ Some s) × (get_or sizes g s ≡ s)) ⊎ ((length sizes ≤ g) × (slice_get sizes g ≡ None)) → option_map_or (λ s. nat_lt 1 s) (slice_get sizes g) true ≡ true
        go (inl (s, low, is, at)) = two_is (slice_get sizes g) s is (let e : slice_index sizes g ≡ s = get_or_from_slice_get sizes g s 0 is in omega (arith, h low))
        go (inr (high, is)) = none_is (slice_get sizes g) is

    pair_kept : (a b : PlacedCell) (bs : List PlacedCell) → IsCountedBy n (a ∷ bs) sizes → 1 ≤ in_group n (group_in n b) bs → SharesKept (is_crowded n sizes) a b
    pair_kept a b bs counted occurs = λ one.
        let g : ℕ = group_in n b in
        let e : group_in n a ≡ g = same_group n a b one in
        let two : 2 ≤ in_group n g (a ∷ bs) = omega (arith, in_group-cons g a bs, counts_itself g (group_in n a) e) in
        let size : g < length sizes → 2 ≤ slice_index sizes g = λ low. omega (arith, counted g low) in
        (crowded a g (sym e) size, crowded b g refl size)

    -- cells that are counted are kept where they share a position
    counted_kept : (cs : List PlacedCell) → IsCountedBy n cs sizes → Rises (SharesKept (is_crowded n sizes)) cs
    counted_kept [] counted = tt
    counted_kept (c ∷ cs) counted = (
      all_weaker _ _ (λ d occurs. pair_kept c d cs counted occurs) cs (each_in cs),
      counted_kept cs (λ g low. omega (arith, counted g low, in_group-cons g c cs)),
    )

    counted_in_order : (cs : List PlacedCell) → IsCountedBy n cs sizes → IsCountedBy n (in_order placed_cmp cs) sizes
    counted_in_order cs counted = λ g low.
        omega (arith, counted g low, sum_by-IsPermutation (λ c. cond (group_in n c == g) 1 0) (in_order placed_cmp cs) cs (IsPermutation-in_order placed_cmp placed_total cs))

    -- cells of crowded groups tell what all tell
    pub crowded_share : (cs : List PlacedCell) → IsCountedBy n cs sizes → sharing (in_order placed_cmp (filter (is_crowded n sizes) cs)) ≡ sharing (in_order placed_cmp cs)
    crowded_share cs counted = sharing-kept (is_crowded n sizes) cs (counted_kept (in_order placed_cmp cs) (counted_in_order cs counted))

-- what passes a test of what is made of each, made
pub filter-made : {X Y : Type 0} (f : X → Y) (test : Y → Bool) (xs : List X) → map f (filter (λ x. test (f x)) xs) ≡ filter test (map f xs)
filter-made f test [] = refl
filter-made {X} {Y} f test (x ∷ xs) =
    elim (test (f x)) as (λ b. map f (cond b (x ∷ filter (λ z. test (f z)) xs) (filter (λ z. test (f z)) xs)) ≡ cond b (f x ∷ filter test (map f xs)) (filter test (map f xs))) [
      | true ↦ ap (λ (l : List Y). f x ∷ l) (filter-made f test xs)
      | false ↦ filter-made f test xs
    ]
