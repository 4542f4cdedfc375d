-- The list of keys with their numbers: there is one for what occurs in a list, and never more than one.
use Rattle.std.specs.Prelude.{◌≡◌, ℕ, zero, suc, ◌+◌, ◌<◌, Bool, true, false, ◌||◌, cond, List, [], ◌∷◌, map, All, count_by, unwrap_or, Option, Some, None, refl}
use Rattle.std.proofs.Common.{arith, sym, ap, ap₂, ◌∙◌, subst, ⊎_elim, true≢false, ◌≢◌}
use Rattle.std.specs.List.Sorted.{IsStrictlySortedBy}
use Rattle.std.specs.Ordering.{is_eq, eq_by_cmp, ordering_reverse}
use Rattle.std.specs.Cmp.{IsTotalOrder, tied_itself, Equal-is, eq_by_cmp_equiv}
use Rattle.std.specs.Map.{lookup, keys_of, values_of}
use Rattle.std.specs.BTreeMap.{is_at}
use Rattle.std.proofs.lemmas.List.Elements.{All-cons, All-nil, All-head, All-tail}
use Rattle.std.proofs.lemmas.List.Sums.{sum_by-cons}
use Rattle.std.proofs.lemmas.Map.Lookups.{CmpEqualImpliesEq}
use Rattle.std.proofs.lemmas.Map.{lookup-none}
use Rattle.std.proofs.lemmas.Map.Keys.{sorted_tail, IsDistinct-from_sorted}
use Rattle.std.proofs.lemmas.Map.Entries.{lookup_head, lookup_tail, none_past_head, none_below_head}
use Rattle.std.proofs.lemmas.Bool.{cases_Bool}
use Rattle.std.specs.Option.{is_some}
use Rattle.std.specs.declared.cmp.Ordering.{Ordering}
use Rattle.std.specs.declared.cmp.Ordering.TheVariants.{Less, Equal, Greater}
use Rattle.key_counts.specs.Counts.{count_of}
use Rattle.key_counts.specs.Rising.{rising, occurs, times_in, occurrences, Shows}
use Rattle.key_counts.proofs.RisingLemmas.{sorted-rising, occurs-rising, alike}

not_None : {X : Type 0} (v : X) → Some v ≢ None
not_None v e = true≢false (ap is_some e)

-- ---- lists of keys with values, rising: equal look-ups give equal lists

module _ {K X : Type 0} (cmp : K → K → Ordering) (o : IsTotalOrder cmp) where
  abbrev pub value_at : List (K × X) → K → Option X
  value_at es q = lookup (is_at (cmp q)) es

  at_head : (x : K × X) (xs : List (K × X)) → value_at (x ∷ xs) x.0 ≡ Some x.1
  at_head x xs = lookup_head (is_at (cmp x.0)) x xs (ap is_eq (tied_itself o x.0))

  pub past_head : (q : K) (x : K × X) (xs : List (K × X)) → IsStrictlySortedBy cmp (keys_of (x ∷ xs)) → eq_by_cmp cmp q x.0 ≡ true → value_at xs q ≡ None
  past_head q x xs s t = lookup-none (is_at (cmp q)) xs (none_past_head (eq_by_cmp_equiv o) q x xs (IsDistinct-from_sorted cmp _ s) t)

  module _ (x y : K × X) (xs ys : List (K × X)) (s : IsStrictlySortedBy cmp (keys_of (x ∷ xs))) (t : IsStrictlySortedBy cmp (keys_of (y ∷ ys))) (h : (q : K) → value_at (x ∷ xs) q ≡ value_at (y ∷ ys) q) where
    by_heads : (r : Ordering) → cmp x.0 y.0 ≡ r → cmp x.0 y.0 ≡ Equal
    by_heads Less p = absurd (not_None x.1 (sym (at_head x xs) ∙ h x.0 ∙ lookup-none _ (y ∷ ys) (none_below_head o x.0 y ys t p)))
    by_heads Equal p = p
    by_heads Greater p = absurd (not_None y.1 (sym (at_head y ys) ∙ sym (h y.0) ∙ lookup-none _ (x ∷ xs) (none_below_head o y.0 x xs s (o.antisymm y.0 x.0 ∙ ap ordering_reverse p))))

    heads : cmp x.0 y.0 ≡ Equal
    heads = by_heads (cmp x.0 y.0) refl

    head_values : x.1 ≡ y.1
    head_values = ap (λ u. unwrap_or u x.1) (sym (at_head x xs) ∙ h x.0 ∙ lookup_head (is_at (cmp x.0)) y ys (ap is_eq heads))

    tails : (q : K) → value_at xs q ≡ value_at ys q
    tails q =
        let t' = eq_by_cmp_equiv o in
        let e : eq_by_cmp cmp q y.0 ≡ eq_by_cmp cmp q x.0 = t'.symm q y.0 ∙ sym (t'.congr x.0 y.0 q (ap is_eq heads)) ∙ t'.symm x.0 q in
        ⊎_elim
        (λ b. past_head q x xs s b ∙ sym (past_head q y ys t (e ∙ b)))
        (λ b. sym (lookup_tail (is_at (cmp q)) x xs b) ∙ h q ∙ lookup_tail (is_at (cmp q)) y ys (e ∙ b))
        (cases_Bool (eq_by_cmp cmp q x.0))

  same_entries : CmpEqualImpliesEq cmp → (es fs : List (K × X)) → IsStrictlySortedBy cmp (keys_of es) → IsStrictlySortedBy cmp (keys_of fs) → ((q : K) → value_at es q ≡ value_at fs q) → es ≡ fs
  same_entries exact [] [] s t h = refl
  same_entries exact [] (y ∷ ys) s t h = absurd (not_None y.1 (sym (h y.0 ∙ at_head y ys)))
  same_entries exact (x ∷ xs) [] s t h = absurd (not_None x.1 (sym (at_head x xs) ∙ h x.0))
  same_entries exact (x ∷ xs) (y ∷ ys) s t h =
      let r = same_entries exact xs ys (sorted_tail cmp x.0 (keys_of xs) s) (sorted_tail cmp y.0 (keys_of ys) t) (tails x y xs ys s t h) in
      λ i. (exact x.0 y.0 (heads x y xs ys s t h) i, head_values x y xs ys s t h i) ∷ r i

or_true : (b : Bool) → (b || true) ≡ true
or_true true = refl
or_true false = refl

-- the number that a look-up found, which is above 0
found : ℕ → Option ℕ
found zero = None
found (suc n) = Some (suc n)

found-lookup : {K : Type 0} (t : K → Bool) (es : List (K × ℕ)) → All (λ n. 0 < n) (values_of es) → lookup t es ≡ found (unwrap_or (lookup t es) 0)
unfolding found
found-lookup t [] h = refl
found-lookup t (e ∷ es) h = by (t e.0) e.1 (All-head (λ n. 0 < n) e.1 (values_of es) h) (found-lookup t es (All-tail (λ n. 0 < n) e.1 (values_of es) h))
  where
    by : (b : Bool) (n : ℕ) → 0 < n → lookup t es ≡ found (unwrap_or (lookup t es) 0) → cond b (Some n) (lookup t es) ≡ found (unwrap_or (cond b (Some n) (lookup t es)) 0)
    by true zero p i = absurd (omega arith)
    by true (suc n) p i = refl
    by false n p i = i

-- each key with its number
keyed : {K : Type 0} → (K → ℕ) → List K → List (K × ℕ)
keyed n ks = map (λ k. (k, n k)) ks

keys_of-keyed : {K : Type 0} (n : K → ℕ) (ks : List K) → keys_of (keyed n ks) ≡ ks
unfolding keyed
keys_of-keyed n [] = refl
keys_of-keyed n (k ∷ ks) = ap (λ qs. k ∷ qs) (keys_of-keyed n ks)

pub Shows-same : {K : Type 0} (cmp : K → K → Ordering) (m n : K → ℕ) (es : List (K × ℕ)) → ((k : K) → m k ≡ n k) → Shows cmp m es → Shows cmp n es
Shows-same cmp m n es h s = record { sorted = s.sorted; positive = s.positive; counts = λ k. s.counts k ∙ h k }

module _ {K : Type 0} (cmp : K → K → Ordering) (o : IsTotalOrder cmp) where
  -- at most one list shows the numbers
  pub one_shown : CmpEqualImpliesEq cmp → (n : K → ℕ) (xs ys : List (K × ℕ)) → Shows cmp n xs → Shows cmp n ys → xs ≡ ys
  one_shown exact n xs ys a b =
      same_entries cmp o exact xs ys a.sorted b.sorted
      (λ q. found-lookup (is_at (cmp q)) xs a.positive ∙ ap found (a.counts q ∙ sym (b.counts q)) ∙ sym (found-lookup (is_at (cmp q)) ys b.positive))

  pub flip : (a b : K) → is_eq (cmp a b) ≡ is_eq (cmp b a)
  flip a b = ap is_eq (o.antisymm a b) ∙ turned (cmp b a)
    where
      turned : (r : Ordering) → is_eq (ordering_reverse r) ≡ is_eq r
      turned Less = refl
      turned Equal = refl
      turned Greater = refl

  -- keys that tie occur equally often
  times_in-tied : (ks : List K) (a b : K) → cmp a b ≡ Equal → times_in cmp ks a ≡ times_in cmp ks b
  times_in-tied [] a b e = refl
  times_in-tied (k ∷ ks) a b e =
      sum_by-cons (λ q. cond (is_eq (cmp q a)) 1 0) k ks
      ∙ ap₂ (λ (t : Bool) m. cond t 1 0 + m) (alike cmp o k a b e) (times_in-tied ks a b e)
      ∙ sym (sum_by-cons (λ q. cond (is_eq (cmp q b)) 1 0) k ks)

  -- what occurs does so at least once, and what does not never
  times_in-occurs : (ks : List K) (k : K) → occurs cmp k ks ≡ true → 0 < times_in cmp ks k
  times_in-occurs [] k e = cc
  times_in-occurs (q ∷ ks) k e = by (is_eq (cmp k q)) (flip q k) (times_in-occurs ks k) e
    where
      by : (b : Bool) → is_eq (cmp q k) ≡ b → (occurs cmp k ks ≡ true → 0 < times_in cmp ks k) → (b || occurs cmp k ks) ≡ true → 0 < times_in cmp (q ∷ ks) k
      by true f r e = let s = sum_by-cons (λ p. cond (is_eq (cmp p k)) 1 0) q ks ∙ ap (λ (t : Bool). cond t 1 0 + times_in cmp ks k) f in omega arith
      by false f r e = let s = sum_by-cons (λ p. cond (is_eq (cmp p k)) 1 0) q ks ∙ ap (λ (t : Bool). cond t 1 0 + times_in cmp ks k) f in let i = r e in omega arith

  times_in-not : (ks : List K) (k : K) → occurs cmp k ks ≡ false → times_in cmp ks k ≡ 0
  times_in-not [] k e = refl
  times_in-not (q ∷ ks) k e = by (is_eq (cmp k q)) (flip q k) (times_in-not ks k) e
    where
      by : (b : Bool) → is_eq (cmp q k) ≡ b → (occurs cmp k ks ≡ false → times_in cmp ks k ≡ 0) → (b || occurs cmp k ks) ≡ false → times_in cmp (q ∷ ks) k ≡ 0
      by true f r e = cc
      by false f r e = sum_by-cons (λ p. cond (is_eq (cmp p k)) 1 0) q ks ∙ ap₂ (λ (t : Bool) m. cond t 1 0 + m) f (r e)

  positive-keyed : (n : K → ℕ) (ks : List K) → ((k : K) → occurs cmp k ks ≡ true → 0 < n k) → All (λ m. 0 < m) (values_of (keyed n ks))
  unfolding keyed
  positive-keyed n [] h = All-nil (λ m. 0 < m)
  positive-keyed n (k ∷ ks) h =
      All-cons (λ m. 0 < m) (n k) (values_of (keyed n ks)) (h k (ap (λ r. is_eq r || occurs cmp k ks) (tied_itself o k)))
      (positive-keyed n ks (λ q e. h q (ap (λ b. is_eq (cmp q k) || b) e ∙ or_true (is_eq (cmp q k)))))

  count_of-keyed : (n : K → ℕ) → ((a b : K) → cmp a b ≡ Equal → n a ≡ n b) → (ks : List K) (q : K) → count_of cmp (keyed n ks) q ≡ cond (occurs cmp q ks) (n q) 0
  unfolding keyed
  count_of-keyed n t [] q = refl
  count_of-keyed n t (k ∷ ks) q = by (is_eq (cmp q k)) refl (count_of-keyed n t ks q)
    where
      by : (b : Bool) → is_eq (cmp q k) ≡ b → count_of cmp (keyed n ks) q ≡ cond (occurs cmp q ks) (n q) 0
          → unwrap_or (cond b (Some (n k)) (lookup (is_at (cmp q)) (keyed n ks))) 0 ≡ cond (b || occurs cmp q ks) (n q) 0
      by true e i = sym (t q k ((Equal-is (cmp q k)).0 e))
      by false e i = i

  counts-rising : (ks : List K) (q : K) → cond (occurs cmp q (rising cmp ks)) (times_in cmp ks q) 0 ≡ times_in cmp ks q
  counts-rising ks q = ap (λ (b : Bool). cond b (times_in cmp ks q) 0) (occurs-rising cmp o q ks) ∙ by (occurs cmp q ks) refl
    where
      by : (b : Bool) → occurs cmp q ks ≡ b → cond b (times_in cmp ks q) 0 ≡ times_in cmp ks q
      by true e = refl
      by false e = sym (times_in-not ks q e)

  -- what occurs in a list is shown by its occurrences
  pub Shows-occurrences : (ks : List K) → Shows cmp (times_in cmp ks) (occurrences cmp ks)
  unfolding keyed
  Shows-occurrences ks = record {
    sorted = subst (λ qs. IsStrictlySortedBy cmp qs) (sym (keys_of-keyed (times_in cmp ks) (rising cmp ks))) (sorted-rising cmp o ks);
    positive = positive-keyed (times_in cmp ks) (rising cmp ks) (λ k e. times_in-occurs ks k (sym (occurs-rising cmp o k ks) ∙ e));
    counts = λ q. count_of-keyed (times_in cmp ks) (times_in-tied ks) (rising cmp ks) q ∙ counts-rising ks q;
  }

-- keys of a list are counted as the elements that have them
pub times_in-map : {F K : Type 0} (cmp : K → K → Ordering) (key : F → K) (has : F → K → Bool) → ((f : F) (k : K) → is_eq (cmp (key f) k) ≡ has f k)
    → (fs : List F) (k : K) → times_in cmp (map key fs) k ≡ count_by (λ f. has f k) fs
times_in-map cmp key has same [] k = refl
times_in-map cmp key has same (f ∷ fs) k =
    sum_by-cons (λ q. cond (is_eq (cmp q k)) 1 0) (key f) (map key fs)
    ∙ ap₂ (λ (b : Bool) n. cond b 1 0 + n) (same f k) (times_in-map cmp key has same fs k)
    ∙ sym (sum_by-cons (λ g. cond (has g k) 1 0) f fs)
