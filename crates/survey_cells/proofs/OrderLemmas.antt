-- A list has one order: what is sorted is the list in order.
use Rattle.std.proofs.Common.{◌≡◌, ℕ, ◌+◌, ◌<◌, suc, Bool, true, false, cond, List, [], ◌∷◌, refl, sym, ap, ap₂, ◌∙◌, subst, arith, Ordering, Less, Equal, Greater, is_lt, is_gt, is_eq, true≢false, IsPermutation, IsSorted}
use Rattle.std.specs.Prelude.{⊤}
use Rattle.std.specs.List.{AllByRecursion}
use Rattle.std.specs.Cmp.{IsTotalOrder, Equal-is}
use Rattle.std.specs.Ordering.{ordering_reverse}
use Rattle.std.proofs.lemmas.Cmp.{tied_itself, upto}
use Rattle.std.proofs.lemmas.List.Sorted.{IsPermutation-refl, IsPermutation-cons, IsPermutation-trans, IsPermutation-middle, sum_by-IsPermutation}
use Rattle.std.proofs.lemmas.List.Sums.{sum_by-cons}
use Rattle.std.proofs.lemmas.Map.Lookups.{CmpEqualImpliesEq}
use Rattle.key_counts.specs.Rising.{times_in}
use Rattle.cell_positions.specs.InOrder.{put_in, in_order}

pub all_weaker : {X : Type 0} (P Q : X → Type 0) → ((x : X) → P x → Q x) → (xs : List X) → AllByRecursion P xs → AllByRecursion Q xs
all_weaker P Q f [] h = tt
all_weaker P Q f (x ∷ xs) h = (f x h.0, all_weaker P Q f xs h.1)

-- each is as the test says to those behind it
abbrev pub Rises : {X : Type 0} → (X → X → Type 0) → List X → Type 0
Rises R [] = ⊤
Rises R (x ∷ xs) = AllByRecursion (R x) xs × Rises R xs

module _ {X : Type 0} (cmp : X → X → Ordering) (total : IsTotalOrder cmp) where
  abbrev pub AtMost : X → X → Type 0
  AtMost a b = is_gt (cmp a b) ≡ false

  turned : (o : Ordering) → is_lt o ≡ false → is_gt (ordering_reverse o) ≡ false
  turned Less h = h
  turned Equal h = refl
  turned Greater h = refl

  below_all : (x : X) (ys : List X) → IsSorted cmp (x ∷ ys) → Rises AtMost ys → AllByRecursion (AtMost x) ys
  below_all x [] sorted up = tt
  below_all x (y ∷ ys) sorted up =
      let first : AtMost x y = ap is_gt (total.antisymm x y) ∙ turned _ (sorted 0 x (omega arith) (omega arith)) in
      (first, all_weaker _ (AtMost x) (λ z. upto total x y z first) ys up.0)

  rises_from_sorted : (xs : List X) → IsSorted cmp xs → Rises AtMost xs
  rises_from_sorted [] sorted = tt
  rises_from_sorted (x ∷ xs) sorted =
      let tail : IsSorted cmp xs = λ k d p q. rw Rattle.std.proofs.Common.add-one (rw Rattle.std.proofs.Common.add-one at (sorted (suc k) d (omega arith) (omega arith))) in
      let up = rises_from_sorted xs tail in
      (below_all x xs sorted up, up)

  all-put_in : (P : X → Type 0) (new : X) (xs : List X) → P new → AllByRecursion P xs → AllByRecursion P (put_in cmp new xs)
  all-put_in P new [] h all = (h, tt)
  all-put_in P new (x ∷ xs) h all =
      elim (is_gt (cmp new x)) as (λ b. AllByRecursion P (cond b (x ∷ put_in cmp new xs) (new ∷ x ∷ xs))) [ true ↦ (all.0, all-put_in P new xs h all.1) | false ↦ (h, all) ]

  rises-put_in : (new : X) (xs : List X) → Rises AtMost xs → Rises AtMost (put_in cmp new xs)
  rises-put_in new [] up = (tt, tt)
  rises-put_in new (x ∷ xs) up = go (cmp new x) refl (rises-put_in new xs up.1)
    where
      in_front : AtMost new x → Rises AtMost (new ∷ x ∷ xs)
      in_front below = ((below, all_weaker _ (AtMost new) (λ z. upto total new x z below) xs up.0), up)

      go : (o : Ordering) → cmp new x ≡ o → Rises AtMost (put_in cmp new xs) → Rises AtMost (cond (is_gt o) (x ∷ put_in cmp new xs) (new ∷ x ∷ xs))
      go Less e more = in_front (ap is_gt e)
      go Equal e more = in_front (ap is_gt e)
      go Greater e more = (all-put_in (AtMost x) new xs (ap is_gt (total.antisymm x new ∙ ap ordering_reverse e)) up.0, more)

  pub rises-in_order : (xs : List X) → Rises AtMost (in_order cmp xs)
  rises-in_order [] = tt
  rises-in_order (x ∷ xs) = rises-put_in x _ (rises-in_order xs)

  IsPermutation-put_in : (new : X) (xs : List X) → IsPermutation (put_in cmp new xs) (new ∷ xs)
  IsPermutation-put_in new [] = IsPermutation-refl _
  IsPermutation-put_in new (x ∷ xs) =
      elim (is_gt (cmp new x)) as (λ b. IsPermutation (cond b (x ∷ put_in cmp new xs) (new ∷ x ∷ xs)) (new ∷ x ∷ xs)) [
        | true ↦ IsPermutation-trans _ _ _ (IsPermutation-cons x _ _ (IsPermutation-put_in new xs)) (IsPermutation-middle (x ∷ []) new xs)
        | false ↦ IsPermutation-refl _
      ]

  pub IsPermutation-in_order : (xs : List X) → IsPermutation (in_order cmp xs) xs
  IsPermutation-in_order [] = IsPermutation-refl []
  IsPermutation-in_order (x ∷ xs) = IsPermutation-trans _ _ _ (IsPermutation-put_in x _) (IsPermutation-cons x _ _ (IsPermutation-in_order xs))

  pub both : (x y : X) → AtMost x y → AtMost y x → cmp x y ≡ Equal
  both x y p q = go (cmp x y) refl
    where
      go : (o : Ordering) → cmp x y ≡ o → cmp x y ≡ Equal
      go Less e = absurd (true≢false (sym (ap is_gt (total.antisymm y x ∙ ap ordering_reverse e)) ∙ q))
      go Equal e = e
      go Greater e = absurd (true≢false (sym (ap is_gt e) ∙ p))

  abbrev pub one_if : X → X → ℕ
  one_if z q = cond (is_eq (cmp z q)) 1 0

  pub times-cons : (q x : X) (xs : List X) → times_in cmp (x ∷ xs) q ≡ one_if x q + times_in cmp xs q
  times-cons q x xs = sum_by-cons (λ z. one_if z q) x xs

  pub stands : (x : X) (xs : List X) → 0 < times_in cmp (x ∷ xs) x
  stands x xs =
      let one : one_if x x ≡ 1 = ap (λ o. cond (is_eq o) 1 0) (tied_itself total x) in
      omega (arith, times-cons x x xs)

  module _ (exact : CmpEqualImpliesEq cmp) where
    -- what occurs is not below what is below all
    occurs_above : (x q : X) (ys : List X) → AllByRecursion (AtMost x) ys → 0 < times_in cmp ys q → AtMost x q
    occurs_above x q [] all h = absurd (omega arith)
    occurs_above x q (y ∷ ys) all h = go (is_eq (cmp y q)) refl (occurs_above x q ys all.1)
      where
        go : (b : Bool) → is_eq (cmp y q) ≡ b → (0 < times_in cmp ys q → AtMost x q) → AtMost x q
        go true e behind = subst (λ (z : X). AtMost x z) (exact y q ((Equal-is (cmp y q)).0 e)) all.0
        go false e behind =
            let none : one_if y q ≡ 0 = ap (λ b. cond b 1 0) e in
            behind (omega (arith, times-cons q y ys))

    among : (x q : X) (xs : List X) → AllByRecursion (AtMost x) xs → 0 < times_in cmp (x ∷ xs) q → AtMost x q
    among x q xs all h = occurs_above x q (x ∷ xs) (ap is_gt (tied_itself total x), all) h

    -- two lists in order of which each occurs as often in both are one
    same_list : (xs ys : List X) → Rises AtMost xs → Rises AtMost ys → ((q : X) → times_in cmp xs q ≡ times_in cmp ys q) → xs ≡ ys
    same_list [] [] u v h = refl
    same_list [] (y ∷ ys) u v h = absurd (omega (arith, stands y ys, h y))
    same_list (x ∷ xs) [] u v h = absurd (omega (arith, stands x xs, h x))
    same_list (x ∷ xs) (y ∷ ys) u v h =
        let low : AtMost x y = among x y xs u.0 (omega (arith, stands y ys, h y)) in
        let high : AtMost y x = among y x ys v.0 (omega (arith, stands x xs, h x)) in
        let heads : x ≡ y = exact x y (both x y low high) in
        let tails : (q : X) → times_in cmp xs q ≡ times_in cmp ys q
        = λ q. let one : one_if x q ≡ one_if y q = ap (λ z. one_if z q) heads in omega (arith, times-cons q x xs, times-cons q y ys, h q) in
        ap₂ (λ z zs. z ∷ zs) heads (same_list xs ys u.1 v.1 tails)

    pub sorted_is : (xs ys : List X) → IsPermutation xs ys → IsSorted cmp ys → ys ≡ in_order cmp xs
    sorted_is xs ys same sorted =
        same_list ys (in_order cmp xs) (rises_from_sorted ys sorted) (rises-in_order xs)
        (λ q. sum_by-IsPermutation (λ z. one_if z q) xs ys same ∙ sum_by-IsPermutation (λ z. one_if z q) (in_order cmp xs) xs (IsPermutation-in_order xs))
