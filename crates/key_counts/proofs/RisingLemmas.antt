-- Laws of rising lists: there is one with given keys, and at most one.
use Rattle.std.specs.Prelude.{◌≡◌, Bool, true, false, ◌||◌, List, [], ◌∷◌, refl}
use Rattle.std.proofs.Common.{sym, ap, ◌∙◌}
use Rattle.std.specs.List.{AllByRecursion}
use Rattle.std.specs.List.Sorted.{IsStrictlySortedBy}
use Rattle.std.specs.Ordering.{is_eq, match_ordering, ordering_reverse}
use Rattle.std.specs.BTreeSet.{insert_key}
use Rattle.std.specs.Cmp.{IsTotalOrder}
use Rattle.std.proofs.lemmas.Map.Lookups.{CmpEqualImpliesEq, btree_set_from_contains}
use Rattle.std.specs.declared.cmp.Ordering.{Ordering}
use Rattle.std.specs.declared.cmp.Ordering.TheVariants.{Less, Equal, Greater}
use Rattle.key_counts.specs.Rising.{rising, occurs, IsRisingOf}

module _ {K : Type 0} (cmp : K → K → Ordering) (o : IsTotalOrder cmp) where
  -- what is above q is above k, which is below q
  pub below_all : (k q : K) (qs : List K) → cmp k q ≡ Less → AllByRecursion (λ y. cmp q y ≡ Less) qs → AllByRecursion (λ y. cmp k y ≡ Less) qs
  below_all k q [] e h = tt
  below_all k q (x ∷ qs) e h = (o.trans k q x e h.0, below_all k q qs e h.1)

  -- where q is below k and below all of qs, it is below all of them with k put in
  below_placed : (q k : K) (qs : List K) → cmp q k ≡ Less → AllByRecursion (λ y. cmp q y ≡ Less) qs → AllByRecursion (λ y. cmp q y ≡ Less) (insert_key cmp qs k)
  below_placed q k [] e h = (e, tt)
  below_placed q k (x ∷ qs) e h = by (cmp k x) (below_placed q k qs e h.1)
    where
      by : (r : Ordering) → AllByRecursion (λ y. cmp q y ≡ Less) (insert_key cmp qs k) → AllByRecursion (λ y. cmp q y ≡ Less) (match_ordering r (k ∷ x ∷ qs) (x ∷ qs) (x ∷ insert_key cmp qs k))
      by Less s = (e, h)
      by Equal s = h
      by Greater s = (h.0, s)

  flipped : (k q : K) → cmp k q ≡ Greater → cmp q k ≡ Less
  flipped k q e = o.antisymm q k ∙ ap ordering_reverse e

  -- a key put into a strictly rising list leaves it so
  pub sorted-insert_key : (k : K) (qs : List K) → IsStrictlySortedBy cmp qs → IsStrictlySortedBy cmp (insert_key cmp qs k)
  unfolding IsStrictlySortedBy
  sorted-insert_key k [] h = (tt, tt)
  sorted-insert_key k (q ∷ qs) h = by (cmp k q) refl (sorted-insert_key k qs h.1)
    where
      by : (r : Ordering) → cmp k q ≡ r → IsStrictlySortedBy cmp (insert_key cmp qs k) → IsStrictlySortedBy cmp (match_ordering r (k ∷ q ∷ qs) (q ∷ qs) (q ∷ insert_key cmp qs k))
      by Less e s = ((e, below_all k q qs e h.0), h)
      by Equal e s = h
      by Greater e s = (below_placed q k qs (flipped k q e) h.0, s)

  pub sorted-rising : (ks : List K) → IsStrictlySortedBy cmp (rising cmp ks)
  unfolding IsStrictlySortedBy
  sorted-rising [] = tt
  sorted-rising (k ∷ ks) = sorted-insert_key k (rising cmp ks) (sorted-rising ks)

  or_swap : (a b c : Bool) → (a || (b || c)) ≡ (b || (a || c))
  or_swap true true c = refl
  or_swap true false c = refl
  or_swap false true c = refl
  or_swap false false c = refl

  or_twice : (a b : Bool) → (a || b) ≡ (a || (a || b))
  or_twice true b = refl
  or_twice false b = refl

  -- keys that tie are found alike
  pub alike : (p k q : K) → cmp k q ≡ Equal → is_eq (cmp p k) ≡ is_eq (cmp p q)
  alike p k q e = ap is_eq (o.antisymm p k ∙ ap ordering_reverse (o.congr k q p e) ∙ sym (o.antisymm p q))

  pub occurs-insert_key : (p k : K) (qs : List K) → occurs cmp p (insert_key cmp qs k) ≡ (is_eq (cmp p k) || occurs cmp p qs)
  occurs-insert_key p k [] = refl
  occurs-insert_key p k (q ∷ qs) = by (cmp k q) refl (occurs-insert_key p k qs)
    where
      by : (r : Ordering) → cmp k q ≡ r → occurs cmp p (insert_key cmp qs k) ≡ (is_eq (cmp p k) || occurs cmp p qs)
          → occurs cmp p (match_ordering r (k ∷ q ∷ qs) (q ∷ qs) (q ∷ insert_key cmp qs k)) ≡ (is_eq (cmp p k) || (is_eq (cmp p q) || occurs cmp p qs))
      by Less e s = refl
      by Equal e s = or_twice (is_eq (cmp p q)) (occurs cmp p qs) ∙ ap (λ b. b || (is_eq (cmp p q) || occurs cmp p qs)) (sym (alike p k q e))
      by Greater e s = ap (λ b. is_eq (cmp p q) || b) s ∙ or_swap (is_eq (cmp p q)) (is_eq (cmp p k)) (occurs cmp p qs)

  pub occurs-rising : (p : K) (ks : List K) → occurs cmp p (rising cmp ks) ≡ occurs cmp p ks
  occurs-rising p [] = refl
  occurs-rising p (k ∷ ks) = occurs-insert_key p k (rising cmp ks) ∙ ap (λ b. is_eq (cmp p k) || b) (occurs-rising p ks)

  -- the rising keys are strictly rising, and exactly the keys
  pub IsRisingOf-rising : (ks : List K) → IsRisingOf cmp ks (rising cmp ks)
  IsRisingOf-rising ks = record { sorted = sorted-rising ks; same = λ k. occurs-rising k ks }

  -- and no other list is
  pub one_rising : CmpEqualImpliesEq cmp → (ks xs ys : List K) → IsRisingOf cmp ks xs → IsRisingOf cmp ks ys → xs ≡ ys
  one_rising exact ks xs ys a b = btree_set_from_contains o (record { keys = xs }) (record { keys = ys }) a.sorted b.sorted (λ q. a.same q ∙ sym (b.same q)) exact
