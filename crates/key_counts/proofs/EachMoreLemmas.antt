-- Keys that are raised one by one are counted as often as they occur.
use Rattle.std.specs.Prelude.{◌≡◌, ℕ, ◌+◌, ◌<◌, Bool, true, false, cond, List, [], ◌∷◌, unwrap_or, Option, Some, None, refl}
use Rattle.std.proofs.Common.{arith, sym, ap, ◌∙◌, subst}
use Rattle.std.specs.List.Sorted.{IsStrictlySortedBy}
use Rattle.std.specs.Ordering.{is_eq, match_ordering, ordering_reverse}
use Rattle.std.specs.Cmp.{IsTotalOrder, Equal-is}
use Rattle.std.specs.Map.{lookup, keys_of}
use Rattle.std.specs.BTreeMap.{is_at, insert_entry}
use Rattle.std.specs.BTreeSet.{insert_key}
use Rattle.std.proofs.lemmas.List.Elements.{All-nil}
use Rattle.std.proofs.lemmas.List.Sums.{sum_by-cons}
use Rattle.std.proofs.lemmas.Map.Views.{All-values-insert_entry}
use Rattle.std.proofs.lemmas.Map.Lookups.{CmpEqualImpliesEq}
use Rattle.std.specs.declared.cmp.Ordering.{Ordering}
use Rattle.std.specs.declared.cmp.Ordering.TheVariants.{Less, Equal, Greater}
use Rattle.key_counts.specs.Counts.{count_of, with_one_more, with_each_more}
use Rattle.key_counts.specs.Rising.{times_in, Shows}
use Rattle.key_counts.proofs.RisingLemmas.{alike, sorted-insert_key}
use Rattle.key_counts.proofs.ShownLemmas.{flip, Shows-same, one_shown}

keys_of-insert_entry : {K : Type 0} (cmp : K → K → Ordering) (es : List (K × ℕ)) (k : K) (n : ℕ) → keys_of (insert_entry cmp es k n) ≡ insert_key cmp (keys_of es) k
keys_of-insert_entry cmp [] k n = refl
keys_of-insert_entry cmp (e ∷ es) k n = by (cmp k e.0) (keys_of-insert_entry cmp es k n)
  where
    by : (r : Ordering) → keys_of (insert_entry cmp es k n) ≡ insert_key cmp (keys_of es) k
        → keys_of (match_ordering r ((k, n) ∷ e ∷ es) ((e.0, n) ∷ es) (e ∷ insert_entry cmp es k n)) ≡ match_ordering r (k ∷ e.0 ∷ keys_of es) (e.0 ∷ keys_of es) (e.0 ∷ insert_key cmp (keys_of es) k)
    by Less i = refl
    by Equal i = refl
    by Greater i = ap (λ ks. e.0 ∷ ks) i

-- a look-up that may find v first
found_first : (b : Bool) (n : ℕ) (o : Option ℕ) → unwrap_or (cond b (Some n) o) 0 ≡ cond b n (unwrap_or o 0)
found_first true n o = refl
found_first false n o = refl

module _ {K : Type 0} (cmp : K → K → Ordering) (o : IsTotalOrder cmp) where
  count_of-insert_entry : (es : List (K × ℕ)) (k : K) (n : ℕ) (q : K) → count_of cmp (insert_entry cmp es k n) q ≡ cond (is_eq (cmp q k)) n (count_of cmp es q)
  count_of-insert_entry [] k n q = found_first (is_eq (cmp q k)) n None
  count_of-insert_entry (e ∷ es) k n q = by (cmp k e.0) refl (count_of-insert_entry es k n q)
    where
      same : (b : Bool) → unwrap_or (cond b (Some n) (lookup (is_at (cmp q)) es)) 0 ≡ cond b n (unwrap_or (cond b (Some e.1) (lookup (is_at (cmp q)) es)) 0)
      same true = refl
      same false = refl

      past : cmp k e.0 ≡ Greater → count_of cmp (insert_entry cmp es k n) q ≡ cond (is_eq (cmp q k)) n (count_of cmp es q) → (b : Bool) → is_eq (cmp q e.0) ≡ b
          → unwrap_or (cond b (Some e.1) (lookup (is_at (cmp q)) (insert_entry cmp es k n))) 0 ≡ cond (is_eq (cmp q k)) n (unwrap_or (cond b (Some e.1) (lookup (is_at (cmp q)) es)) 0)
      past g i true f =
          let below : cmp q k ≡ Less = o.congr q e.0 k ((Equal-is (cmp q e.0)).0 f) ∙ o.antisymm e.0 k ∙ ap ordering_reverse g in
          ap (λ r. cond (is_eq r) n e.1) (sym below)
      past g i false f = i

      by : (r : Ordering) → cmp k e.0 ≡ r → count_of cmp (insert_entry cmp es k n) q ≡ cond (is_eq (cmp q k)) n (count_of cmp es q)
          → count_of cmp (match_ordering r ((k, n) ∷ e ∷ es) ((e.0, n) ∷ es) (e ∷ insert_entry cmp es k n)) q ≡ cond (is_eq (cmp q k)) n (count_of cmp (e ∷ es) q)
      by Less l i = found_first (is_eq (cmp q k)) n (lookup (is_at (cmp q)) (e ∷ es))
      by Equal t i = same (is_eq (cmp q e.0)) ∙ ap (λ (b : Bool). cond b n (count_of cmp (e ∷ es) q)) (sym (alike cmp o q k e.0 t))
      by Greater g i = past g i (is_eq (cmp q e.0)) refl

  -- keys that tie have one number
  count_of-tied : (es : List (K × ℕ)) (a b : K) → cmp a b ≡ Equal → count_of cmp es a ≡ count_of cmp es b
  count_of-tied es a b t = λ i. unwrap_or (lookup (λ p. is_eq (o.congr a b p t i)) es) 0

  count_of-with_one_more : (es : List (K × ℕ)) (k q : K) → count_of cmp (with_one_more cmp es k) q ≡ cond (is_eq (cmp k q)) 1 0 + count_of cmp es q
  count_of-with_one_more es k q = count_of-insert_entry es k (count_of cmp es k + 1) q ∙ by (is_eq (cmp q k)) refl ∙ ap (λ (b : Bool). cond b 1 0 + count_of cmp es q) (flip cmp o q k)
    where
      by : (b : Bool) → is_eq (cmp q k) ≡ b → cond b (count_of cmp es k + 1) (count_of cmp es q) ≡ cond b 1 0 + count_of cmp es q
      by true t = let same = count_of-tied es q k ((Equal-is (cmp q k)).0 t) in omega arith
      by false t = omega arith

  Shows-with_one_more : (n : K → ℕ) (es : List (K × ℕ)) (k : K) → Shows cmp n es → Shows cmp (λ q. cond (is_eq (cmp k q)) 1 0 + n q) (with_one_more cmp es k)
  Shows-with_one_more n es k s = record {
    sorted = subst (λ ks. IsStrictlySortedBy cmp ks) (sym (keys_of-insert_entry cmp es k (count_of cmp es k + 1))) (sorted-insert_key cmp o k (keys_of es) s.sorted);
    positive = All-values-insert_entry cmp k (count_of cmp es k + 1) (λ m. 0 < m) es s.positive (omega arith);
    counts = λ q. count_of-with_one_more es k q ∙ ap (λ m. cond (is_eq (cmp k q)) 1 0 + m) (s.counts q);
  }

  Shows-with_each_more : (n : K → ℕ) (es : List (K × ℕ)) (ks : List K) → Shows cmp n es → Shows cmp (λ q. times_in cmp ks q + n q) (with_each_more cmp es ks)
  Shows-with_each_more n es [] s = Shows-same cmp n (λ q. times_in cmp [] q + n q) es (λ q. omega arith) s
  Shows-with_each_more n es (k ∷ ks) s =
      Shows-same cmp (λ q. times_in cmp ks q + (cond (is_eq (cmp k q)) 1 0 + n q)) (λ q. times_in cmp (k ∷ ks) q + n q) (with_each_more cmp (with_one_more cmp es k) ks)
      (λ q. let step = sum_by-cons (λ p. cond (is_eq (cmp p q)) 1 0) k ks in omega arith)
      (Shows-with_each_more (λ q. cond (is_eq (cmp k q)) 1 0 + n q) (with_one_more cmp es k) ks (Shows-with_one_more n es k s))

  Shows-none : Shows cmp (λ q. 0) []
  unfolding IsStrictlySortedBy
  Shows-none = record { sorted = tt; positive = All-nil (λ m. 0 < m); counts = λ q. refl }

  -- what shows how often each key occurs is what raising each key makes
  pub with_each_more-Shows : CmpEqualImpliesEq cmp → (es : List (K × ℕ)) (ks : List K) → Shows cmp (times_in cmp ks) es → es ≡ with_each_more cmp [] ks
  with_each_more-Shows exact es ks s =
      one_shown cmp o exact (times_in cmp ks) es (with_each_more cmp [] ks) s
      (Shows-same cmp (λ q. times_in cmp ks q + 0) (times_in cmp ks) (with_each_more cmp [] ks) (λ q. omega arith) (Shows-with_each_more (λ q. 0) [] ks Shows-none))
