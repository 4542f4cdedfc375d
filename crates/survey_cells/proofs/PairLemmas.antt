-- What is kept of cells, one cell more.
use Rattle.std.specs.Prelude.{◌≡◌, ℕ, ◌+◌, ◌<◌, ◌≤◌, Bool, true, false, cond, List, [], ◌∷◌, ◌++◌, length, map, filter, filter_map, take, Option, Some, None}
use Rattle.std.proofs.Common.{arith, sym, ap, ◌∙◌, get_or}
use Rattle.std.specs.List.{cons_option}
use Rattle.std.specs.Ordering.{is_eq}
use Rattle.std.proofs.lemmas.List.{append-nil, take_more, map-append, length-take-le}
use Rattle.std.proofs.lemmas.List.Elements.{filter-append, filter_map-append}
use Rattle.std.proofs.lemmas.List.Sums.{sum_by_push, count_by-le-length}
use Rattle.key_counts.specs.Rising.{times_in}
use Rattle.position_differences.specs.Differences.{difference_cmp}
use Rattle.position_differences.specs.declared.difference.Difference.{Difference}

-- fewer are kept than there are
pub few_kept : {X Y : Type 0} (h : X → Option Y) (xs : List X) → length (filter_map h xs) ≤ length xs
few_kept h [] = omega arith
few_kept {X} {Y} h (x ∷ xs) = by (h x) (few_kept h xs)
  where
    by : (o : Option Y) → length (filter_map h xs) ≤ length xs → length (cons_option o (filter_map h xs)) ≤ length (x ∷ xs)
    by None le = omega arith
    by (Some y) le = omega arith

module _ {X Y : Type 0} (h : X → Option Y) (xs : List X) (i : ℕ) (d : X) (inside : i < length xs) where
  kept_more : filter_map h (take (i + 1) xs) ≡ filter_map h (take i xs) ++ cons_option (h (get_or xs i d)) []
  kept_more = ap (filter_map h) (take_more xs i d inside) ∙ filter_map-append h (take i xs) (get_or xs i d ∷ [])

  -- nothing more is kept
  pub kept_none : None ≡ h (get_or xs i d) → filter_map h (take (i + 1) xs) ≡ filter_map h (take i xs)
  kept_none e = kept_more ∙ ap (λ o. filter_map h (take i xs) ++ cons_option o []) (sym e) ∙ append-nil (filter_map h (take i xs))

  -- one more is kept
  pub kept_some : (y : Y) → Some y ≡ h (get_or xs i d) → filter_map h (take (i + 1) xs) ≡ filter_map h (take i xs) ++ y ∷ []
  kept_some y e = kept_more ∙ ap (λ o. filter_map h (take i xs) ++ cons_option o []) (sym e)

  pub few_so_far : length (filter_map h (take i xs)) ≤ i
  few_so_far = omega (arith, few_kept h (take i xs), length-take-le i xs (omega arith))

-- how often a difference occurs, with one difference more
pub times_more : (ds : List Difference) (d q : Difference) → times_in difference_cmp (ds ++ d ∷ []) q ≡ times_in difference_cmp ds q + cond (is_eq (difference_cmp d q)) 1 0
times_more ds d q = sum_by_push (λ e. cond (is_eq (difference_cmp e q)) 1 0) ds d

pub times_few : (ds : List Difference) (q : Difference) → times_in difference_cmp ds q ≤ length ds
times_few ds q = count_by-le-length (λ e. is_eq (difference_cmp e q)) ds

-- what is made of those that pass, and of one more that passes or does not
module _ {Y Z : Type 0} (test : Y → Bool) (f : Y → Z) (ys : List Y) (y : Y) where
  made_more : map f (filter test (ys ++ y ∷ [])) ≡ map f (filter test ys) ++ map f (cond (test y) (y ∷ []) [])
  made_more = ap (map f) (filter-append test ys (y ∷ [])) ∙ map-append f (filter test ys) (cond (test y) (y ∷ []) [])

  pub made_passes : test y ≡ true → map f (filter test (ys ++ y ∷ [])) ≡ map f (filter test ys) ++ f y ∷ []
  made_passes e = made_more ∙ ap (λ b. map f (filter test ys) ++ map f (cond b (y ∷ []) [])) e

  pub made_fails : test y ≡ false → map f (filter test (ys ++ y ∷ [])) ≡ map f (filter test ys)
  made_fails e = made_more ∙ ap (λ b. map f (filter test ys) ++ map f (cond b (y ∷ []) [])) e ∙ append-nil (map f (filter test ys))
