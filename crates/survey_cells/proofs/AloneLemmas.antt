-- A cell that shares its position with no other one can be left out.
use Rattle.std.specs.Prelude.{◌≡◌, Bool, true, false, cond, List, [], ◌∷◌, filter, refl}
use Rattle.std.proofs.Common.{sym, ap, ap₂, ◌∙◌, true≢false, Ordering, Less, Equal, Greater, is_eq, is_gt}
use Rattle.std.specs.List.{AllByRecursion}
use Rattle.std.specs.Cmp.{IsTotalOrder, then_total, on_total}
use Rattle.std.specs.Ordering.{ordering_then, ordering_reverse, nat_cmp}
use Rattle.std.proofs.lemmas.Cmp.{upto}
use Rattle.key_counts.specs.RatioOrder.{ratio_cmp, ratio_total}
use Rattle.key_counts.proofs.KeyLemmas.{is_eq-pair}
use Rattle.cell_positions.specs.declared.shared.PlacedCell.{PlacedCell}
use Rattle.cell_positions.specs.declared.trace_pair.TracePair.{TracePair}
use Rattle.cell_positions.specs.InOrder.{put_in, in_order}
use Rattle.cell_positions.specs.Shared.{placed_cmp, at_one_position, sharing, sharing_behind}
use Rattle.survey_cells.proofs.OrderLemmas.{Rises, AtMost, all_weaker, rises-in_order, both}
use Rattle.survey_cells.proofs.PlacedLemmas.{placed_total}

-- which of two stands in front, by x and then by y
position_cmp : PlacedCell → PlacedCell → Ordering
position_cmp a b = ordering_then (ratio_cmp a.x b.x) (ratio_cmp a.y b.y)

position_total : IsTotalOrder position_cmp
unfolding position_cmp
position_total = then_total (on_total (λ (p : PlacedCell). p.x) ratio_total) (on_total (λ (p : PlacedCell). p.y) ratio_total)

position_too : (a b t : Ordering) → is_gt (ordering_then a (ordering_then b t)) ≡ false → is_gt (ordering_then a b) ≡ false
position_too Less b t h = h
position_too Equal Less t h = h
position_too Equal Equal t h = refl
position_too Equal Greater t h = h
position_too Greater b t h = h

in_front : (a b : PlacedCell) → AtMost placed_cmp placed_total a b → AtMost position_cmp position_total a b
unfolding position_cmp
in_front a b h = position_too (ratio_cmp a.x b.x) (ratio_cmp a.y b.y) (nat_cmp a.trace b.trace) h

one_is : (a b : PlacedCell) → at_one_position a b ≡ is_eq (position_cmp a b)
unfolding position_cmp
one_is a b = sym (is_eq-pair (ratio_cmp a.x b.x) (ratio_cmp a.y b.y))

tied : (o : Ordering) → is_eq o ≡ true → o ≡ Equal
tied Less h = absurd (true≢false (sym h))
tied Equal h = refl
tied Greater h = absurd (true≢false (sym h))

-- what stands between two at one position stands there too
between : (a b c : PlacedCell) → AtMost placed_cmp placed_total a b → AtMost placed_cmp placed_total b c → at_one_position a c ≡ true → at_one_position a b ≡ true
between a b c low high e =
    let ends : position_cmp a c ≡ Equal = tied (position_cmp a c) (sym (one_is a c) ∙ e) in
    let back : AtMost position_cmp position_total c a = ap is_gt (position_total.antisymm c a ∙ ap ordering_reverse ends) in
    let down : AtMost position_cmp position_total b a = upto position_total b c a (in_front b c high) back in
    one_is a b ∙ ap is_eq (both position_cmp position_total a b (in_front a b low) down)

module _ (keeps : PlacedCell → Bool) where
  -- two that share a position are both kept
  abbrev pub SharesKept : PlacedCell → PlacedCell → Type 0
  SharesKept a b = at_one_position a b ≡ true → (keeps a ≡ true) × (keeps b ≡ true)

  first_put : (x : PlacedCell) (ys : List PlacedCell) → AllByRecursion (AtMost placed_cmp placed_total x) ys → put_in placed_cmp x ys ≡ x ∷ ys
  first_put x [] below = refl
  first_put x (y ∷ ys) below = ap (λ b. cond b (y ∷ put_in placed_cmp x ys) (x ∷ y ∷ ys)) below.0

  all-filter : (P : PlacedCell → Type 0) (xs : List PlacedCell) → AllByRecursion P xs → AllByRecursion P (filter keeps xs)
  all-filter P [] all = tt
  all-filter P (x ∷ xs) all = elim (keeps x) as (λ b. AllByRecursion P (cond b (x ∷ filter keeps xs) (filter keeps xs))) [ true ↦ (all.0, all-filter P xs all.1) | false ↦ all-filter P xs all.1 ]

  filter-yes : (x : PlacedCell) (xs : List PlacedCell) → keeps x ≡ true → filter keeps (x ∷ xs) ≡ x ∷ filter keeps xs
  filter-yes x xs e = ap (λ b. cond b (x ∷ filter keeps xs) (filter keeps xs)) e

  filter-no : (x : PlacedCell) (xs : List PlacedCell) → keeps x ≡ false → filter keeps (x ∷ xs) ≡ filter keeps xs
  filter-no x xs e = ap (λ b. cond b (x ∷ filter keeps xs) (filter keeps xs)) e

  put-left_out : (x : PlacedCell) (ys : List PlacedCell) → keeps x ≡ false → filter keeps (put_in placed_cmp x ys) ≡ filter keeps ys
  put-left_out x [] e = filter-no x [] e
  put-left_out x (y ∷ ys) e = go (is_gt (placed_cmp x y)) (put-left_out x ys e)
    where
      go : (b : Bool) → filter keeps (put_in placed_cmp x ys) ≡ filter keeps ys → filter keeps (cond b (y ∷ put_in placed_cmp x ys) (x ∷ y ∷ ys)) ≡ filter keeps (y ∷ ys)
      go true more = ap (λ (l : List PlacedCell). cond (keeps y) (y ∷ l) l) more
      go false more = filter-no x (y ∷ ys) e

  put-kept : (x : PlacedCell) (ys : List PlacedCell) → keeps x ≡ true → Rises (AtMost placed_cmp placed_total) ys → filter keeps (put_in placed_cmp x ys) ≡ put_in placed_cmp x (filter keeps ys)
  put-kept x [] e up = filter-yes x [] e
  put-kept x (y ∷ ys) e up = go (is_gt (placed_cmp x y)) refl (put-kept x ys e up.1)
    where
      behind : is_gt (placed_cmp x y) ≡ true → (b : Bool) → cond b (y ∷ put_in placed_cmp x (filter keeps ys)) (put_in placed_cmp x (filter keeps ys)) ≡ put_in placed_cmp x (cond b (y ∷ filter keeps ys) (filter keeps ys))
      behind above true = sym (ap (λ c. cond c (y ∷ put_in placed_cmp x (filter keeps ys)) (x ∷ y ∷ filter keeps ys)) above)
      behind above false = refl

      go : (b : Bool) → is_gt (placed_cmp x y) ≡ b → filter keeps (put_in placed_cmp x ys) ≡ put_in placed_cmp x (filter keeps ys)
          → filter keeps (cond b (y ∷ put_in placed_cmp x ys) (x ∷ y ∷ ys)) ≡ put_in placed_cmp x (filter keeps (y ∷ ys))
      go true above more = ap (λ (l : List PlacedCell). cond (keeps y) (y ∷ l) l) more ∙ behind above (keeps y)
      go false below more =
          let all : AllByRecursion (AtMost placed_cmp placed_total x) (y ∷ ys) = (below, all_weaker _ (AtMost placed_cmp placed_total x) (λ z. upto placed_total x y z below) ys up.0) in
          filter-yes x (y ∷ ys) e ∙ sym (first_put x (filter keeps (y ∷ ys)) (all-filter _ (y ∷ ys) all))

  -- those that are kept are in order as they stand in the order of all
  pub in_order-filter : (xs : List PlacedCell) → in_order placed_cmp (filter keeps xs) ≡ filter keeps (in_order placed_cmp xs)
  in_order-filter [] = refl
  in_order-filter (x ∷ xs) = go (keeps x) refl (in_order-filter xs)
    where
      go : (b : Bool) → keeps x ≡ b → in_order placed_cmp (filter keeps xs) ≡ filter keeps (in_order placed_cmp xs)
          → in_order placed_cmp (cond b (x ∷ filter keeps xs) (filter keeps xs)) ≡ filter keeps (put_in placed_cmp x (in_order placed_cmp xs))
      go true e more = ap (put_in placed_cmp x) more ∙ sym (put-kept x (in_order placed_cmp xs) e (rises-in_order placed_cmp placed_total xs))
      go false e more = more ∙ sym (put-left_out x (in_order placed_cmp xs) e)

  Far : PlacedCell → List PlacedCell → Type 0
  Far a bs = AllByRecursion (λ b. at_one_position a b ≡ false) bs

  far_is : (a : PlacedCell) (bs : List PlacedCell) → Far a bs → sharing_behind a bs ≡ sharing bs
  unfolding Far
  far_is a [] far = refl
  far_is a (b ∷ bs) far = ap (λ c. cond c (record { later = b.trace; earlier = a.trace } ∷ sharing_behind a bs) (sharing_behind b bs)) far.0

  not_shared : (a b : PlacedCell) → SharesKept a b → keeps a ≡ false → at_one_position a b ≡ false
  not_shared a b shares e = go (at_one_position a b) refl
    where
      go : (t : Bool) → at_one_position a b ≡ t → at_one_position a b ≡ false
      go true one = absurd (true≢false (sym (shares one).0 ∙ e))
      go false one = one

  not_shared_either : (a b : PlacedCell) → SharesKept a b → keeps b ≡ false → at_one_position a b ≡ false
  not_shared_either a b shares e = go (at_one_position a b) refl
    where
      go : (t : Bool) → at_one_position a b ≡ t → at_one_position a b ≡ false
      go true one = absurd (true≢false (sym (shares one).1 ∙ e))
      go false one = one

  far_from_all : (a : PlacedCell) (bs : List PlacedCell) → AllByRecursion (SharesKept a) bs → keeps a ≡ false → Far a bs
  unfolding Far
  far_from_all a bs shares e = all_weaker (SharesKept a) _ (λ b s. not_shared a b s e) bs shares

  -- what is not at the position of the next is at that of none behind it
  far_behind : (a b : PlacedCell) (cs : List PlacedCell) → AtMost placed_cmp placed_total a b → at_one_position a b ≡ false → AllByRecursion (AtMost placed_cmp placed_total b) cs → Far a cs
  unfolding Far
  far_behind a b cs low other up = all_weaker (AtMost placed_cmp placed_total b) _ (λ c high. go c high (at_one_position a c) refl) cs up
    where
      go : (c : PlacedCell) → AtMost placed_cmp placed_total b c → (t : Bool) → at_one_position a c ≡ t → at_one_position a c ≡ false
      go c high true one = absurd (true≢false (sym (between a b c low high one) ∙ other))
      go c high false one = one

  abbrev Leaves : List PlacedCell → Type 0
  Leaves bs =
      (sharing bs ≡ sharing (filter keeps bs))
      × ((a : PlacedCell) → AllByRecursion (AtMost placed_cmp placed_total a) bs → AllByRecursion (SharesKept a) bs → sharing_behind a bs ≡ sharing_behind a (filter keeps bs))

  left : (bs : List PlacedCell) → Rises (AtMost placed_cmp placed_total) bs → Rises SharesKept bs → Leaves bs
  unfolding Far
  left [] up shares = (refl, λ a low s. refl)
  left (b ∷ bs) up shares = go (keeps b) refl (left bs up.1 shares.1)
    where
      go : (t : Bool) → keeps b ≡ t → Leaves bs → Leaves (b ∷ bs)
      go true e more = (
        more.1 b up.0 shares.0 ∙ ap sharing (sym (filter-yes b bs e)),
        λ a low s.
            ap₂ (λ (p q : List TracePair). cond (at_one_position a b) (record { later = b.trace; earlier = a.trace } ∷ p) q) (more.1 a low.1 s.1) (more.1 b up.0 shares.0) ∙ ap (sharing_behind a) (sym (filter-yes b bs e)),
      )
      go false e more = (
        far_is b bs (far_from_all b bs shares.0 e) ∙ more.0 ∙ ap sharing (sym (filter-no b bs e)),
        λ a low s.
            let other : at_one_position a b ≡ false = not_shared_either a b s.0 e in
            let far : Far a bs = far_behind a b bs low.0 other up.0 in
            far_is a (b ∷ bs) (other, far) ∙ far_is b bs (far_from_all b bs shares.0 e) ∙ more.0 ∙ sym (far_is a (filter keeps bs) (all-filter _ bs far)) ∙ ap (sharing_behind a) (sym (filter-no b bs e)),
      )

  -- where those that share a position are all kept, what is kept tells the same
  pub sharing-kept : (xs : List PlacedCell) → Rises SharesKept (in_order placed_cmp xs) → sharing (in_order placed_cmp (filter keeps xs)) ≡ sharing (in_order placed_cmp xs)
  sharing-kept xs shares = ap sharing (in_order-filter xs) ∙ sym (left (in_order placed_cmp xs) (rises-in_order placed_cmp placed_total xs) shares).0
