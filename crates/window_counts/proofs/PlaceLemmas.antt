-- The number of a key that has a place, and of one that has none.
use Rattle.std.specs.Prelude.{◌≡◌, ◌==◌, ℕ, zero, suc, ◌+◌, ◌-◌, ◌<◌, Bool, true, false, cond, if◌then◌else◌, List, [], ◌∷◌, ◌++◌, length, set, slice_index, replicate, All, unwrap_or, Option, Some, None, Result, Ok, Err, OnOk, OnErr, refl}
use Rattle.std.proofs.Common.{arith, sym, ap, ◌∙◌, subst, length-set, true≢false}
use Rattle.std.specs.List.{AllByRecursion}
use Rattle.std.specs.List.Sorted.{IsStrictlySortedBy}
use Rattle.std.specs.Ordering.{is_eq, ordering_reverse}
use Rattle.std.specs.Cmp.{IsTotalOrder, Equal-is}
use Rattle.std.specs.Map.{lookup, keys_of, values_of}
use Rattle.std.specs.BTreeMap.{is_at}
use Rattle.std.specs.declared.cmp.Ordering.{Ordering}
use Rattle.std.specs.declared.cmp.Ordering.TheVariants.{Less, Equal}
use Rattle.std.proofs.lemmas.Bool.{eqb-true}
use Rattle.std.proofs.lemmas.List.{get_or-set_same, get_or-set_other, set-get_or, set-set, nil_from_length}
use Rattle.std.proofs.lemmas.List.Elements.{All-cons, All-nil, All-head, All-tail}
use Rattle.key_counts.specs.Counts.{count_of, HasOneMore}
use Rattle.key_counts.specs.Rising.{Shows}
use Rattle.key_counts.proofs.ShownLemmas.{Shows-same}
use Rattle.window_counts.specs.Window.{entry_before, entries, number_in, ArePlaced, IsApart}

module _ {K : Type 0} (cmp : K → K → Ordering) (o : IsTotalOrder cmp) where
  -- the keys of so many places rise
  abbrev pub Rises : ℕ → (ℕ → K) → Type 0
  Rises n key = (p q : ℕ) → p < q → q < n → cmp (key p) (key q) ≡ Less

  rises_behind : (n : ℕ) (key : ℕ → K) → Rises (suc n) key → Rises n (λ p. key (suc p))
  rises_behind n key r p q low high = r (suc p) (suc q) (omega arith) (omega arith)

  -- ---- how often a key is counted among entries

  before_same : (k q : K) (n : ℕ) (es : List (K × ℕ)) → is_eq (cmp q k) ≡ true → count_of cmp es q ≡ 0 → count_of cmp (entry_before k n es) q ≡ n
  before_same k q zero es e none = none
  before_same k q (suc n) es e none = ap (λ (b : Bool). unwrap_or (cond b (Some (suc n)) (lookup (is_at (cmp q)) es)) 0) e

  before_other : (k q : K) (n : ℕ) (es : List (K × ℕ)) → is_eq (cmp q k) ≡ false → count_of cmp (entry_before k n es) q ≡ count_of cmp es q
  before_other k q zero es e = refl
  before_other k q (suc n) es e = ap (λ (b : Bool). unwrap_or (cond b (Some (suc n)) (lookup (is_at (cmp q)) es)) 0) e

  -- a key that no place has
  pub count-none : (ns : List ℕ) (key : ℕ → K) (q : K) → ((p : ℕ) → p < length ns → is_eq (cmp q (key p)) ≡ false) → count_of cmp (entries key ns) q ≡ 0
  count-none [] key q h = refl
  count-none (n ∷ ns) key q h =
      before_other (key 0) q n (entries (λ p. key (suc p)) ns) (h 0 (omega arith))
      ∙ count-none ns (λ p. key (suc p)) q (λ p low. h (suc p) (omega arith))

  -- the key of a place
  pub count-at : (ns : List ℕ) (key : ℕ → K) (q : K) (p : ℕ) → p < length ns → cmp q (key p) ≡ Equal → Rises (length ns) key → count_of cmp (entries key ns) q ≡ slice_index ns p
  count-at [] key q p low e r = absurd (omega arith)
  count-at (n ∷ ns) key q zero low e r =
      before_same (key 0) q n (entries (λ p. key (suc p)) ns) (ap is_eq e)
      (count-none ns (λ p. key (suc p)) q (λ p h. ap is_eq (o.congr q (key 0) (key (suc p)) e ∙ r 0 (suc p) (omega arith) (omega arith))))
  count-at (n ∷ ns) key q (suc p) low e r =
      before_other (key 0) q n (entries (λ p. key (suc p)) ns)
      (ap is_eq (o.congr q (key (suc p)) (key 0) e ∙ o.antisymm (key (suc p)) (key 0) ∙ ap ordering_reverse (r 0 (suc p) (omega arith) low)))
      ∙ count-at ns (λ p. key (suc p)) q p (omega arith) e (rises_behind (length ns) key r)

  -- where a key of the first list is none of the second
  pub count-append : (xs ys : List (K × ℕ)) (q : K) → All (λ n. 0 < n) (values_of xs) → (0 < count_of cmp xs q → count_of cmp ys q ≡ 0) → count_of cmp (xs ++ ys) q ≡ count_of cmp xs q + count_of cmp ys q
  count-append [] ys q a apart = omega arith
  count-append (x ∷ xs) ys q a apart = by (is_eq (cmp q x.0)) apart (count-append xs ys q (All-tail (λ n. 0 < n) x.1 (values_of xs) a))
    where
      first : 0 < x.1
      first = All-head (λ n. 0 < n) x.1 (values_of xs) a

      by : (b : Bool) → (0 < unwrap_or (cond b (Some x.1) (lookup (is_at (cmp q)) xs)) 0 → count_of cmp ys q ≡ 0)
          → ((0 < count_of cmp xs q → count_of cmp ys q ≡ 0) → count_of cmp (xs ++ ys) q ≡ count_of cmp xs q + count_of cmp ys q)
          → unwrap_or (cond b (Some x.1) (lookup (is_at (cmp q)) (xs ++ ys))) 0 ≡ unwrap_or (cond b (Some x.1) (lookup (is_at (cmp q)) xs)) 0 + count_of cmp ys q
      by true g r = let e = g first in omega arith
      by false g r = r g

  -- ---- entries rise, and their numbers are above 0

  pub positive-entries : (ns : List ℕ) (key : ℕ → K) → All (λ n. 0 < n) (values_of (entries key ns))
  positive-entries [] key = All-nil (λ n. 0 < n)
  positive-entries (zero ∷ ns) key = positive-entries ns (λ p. key (suc p))
  positive-entries (suc n ∷ ns) key = All-cons (λ m. 0 < m) (suc n) (values_of (entries (λ p. key (suc p)) ns)) (omega arith) (positive-entries ns (λ p. key (suc p)))

  above : (x : K) (ns : List ℕ) (key : ℕ → K) → ((p : ℕ) → p < length ns → cmp x (key p) ≡ Less) → AllByRecursion (λ y. cmp x y ≡ Less) (keys_of (entries key ns))
  above x [] key h = tt
  above x (zero ∷ ns) key h = above x ns (λ p. key (suc p)) (λ p low. h (suc p) (omega arith))
  above x (suc n ∷ ns) key h = (h 0 (omega arith), above x ns (λ p. key (suc p)) (λ p low. h (suc p) (omega arith)))

  pub sorted-entries : (ns : List ℕ) (key : ℕ → K) → Rises (length ns) key → IsStrictlySortedBy cmp (keys_of (entries key ns))
  unfolding IsStrictlySortedBy
  sorted-entries [] key r = tt
  sorted-entries (zero ∷ ns) key r = sorted-entries ns (λ p. key (suc p)) (rises_behind (length ns) key r)
  sorted-entries (suc n ∷ ns) key r =
      (above (key 0) ns (λ p. key (suc p)) (λ p low. r 0 (suc p) (omega arith) (omega arith)), sorted-entries ns (λ p. key (suc p)) (rises_behind (length ns) key r))

  -- ---- in a window and outside it

  module _ (size : ℕ) (place : K → Option ℕ) (key : ℕ → K) (placed : ArePlaced cmp size place key) where
    -- keys that tie have one place
    pub place_alike : (k q : K) (p : ℕ) → cmp k q ≡ Equal → place k ≡ Some p → place q ≡ Some p
    place_alike k q p e at =
        let h = placed.within k p at in
        placed.found q p h.0 (o.congr q k (key p) (o.antisymm q k ∙ ap ordering_reverse e) ∙ h.1)

    -- and those with one place tie
    pub one_place : (k q : K) (p : ℕ) → place k ≡ Some p → place q ≡ Some p → cmp k q ≡ Equal
    one_place k q p at at' =
        let h = placed.within k p at in
        let i = placed.within q p at' in
        o.congr k (key p) q h.1 ∙ o.antisymm (key p) q ∙ ap ordering_reverse i.1

    module _ (ns : List ℕ) (outside : List (K × ℕ)) (apart : IsApart cmp size place ns outside) where
      rises_all : Rises (length ns) key
      rises_all p q low high = placed.rising p q low (subst (λ n. q < n) apart.places high)

      not_among : (k : K) → place k ≡ None → (p : ℕ) → p < length ns → is_eq (cmp k (key p)) ≡ false
      not_among k none p low = by (is_eq (cmp k (key p))) refl
        where
          by : (b : Bool) → is_eq (cmp k (key p)) ≡ b → is_eq (cmp k (key p)) ≡ false
          by true e = absurd (let f = placed.found k p (subst (λ n. p < n) apart.places low) ((Equal-is (cmp k (key p))).0 e) in cc)
          by false e = e

      pub number-entries : (k : K) → count_of cmp (entries key ns) k ≡ number_in ns (place k)
      number-entries k = by (place k) refl
        where
          by : (r : Option ℕ) → place k ≡ r → count_of cmp (entries key ns) k ≡ number_in ns r
          by None e = count-none ns key k (not_among k e)
          by (Some p) e = let h = placed.within k p e in count-at ns key k p (subst (λ n. p < n) (sym apart.places) h.0) h.1 rises_all

      pub never_both : (k : K) → 0 < count_of cmp (entries key ns) k → count_of cmp outside k ≡ 0
      never_both k held = by (place k) refl
        where
          by : (r : Option ℕ) → place k ≡ r → count_of cmp outside k ≡ 0
          by None e = absurd (let n = number-entries k ∙ ap (number_in ns) e in omega arith)
          by (Some p) e = apart.apart k p e

      -- how often a key is counted
      pub number-view : (k : K) → count_of cmp (entries key ns ++ outside) k ≡ number_in ns (place k) + count_of cmp outside k
      number-view k = count-append (entries key ns) outside k (positive-entries ns key) (never_both k) ∙ ap (λ n. n + count_of cmp outside k) (number-entries k)

      pub seen : (es : List (K × ℕ)) → entries key ns ++ outside ≡ es → (k : K) → count_of cmp es k ≡ number_in ns (place k) + count_of cmp outside k
      seen es is k = ap (λ l. count_of cmp l k) (sym is) ∙ number-view k

      -- the entries show what is counted in the window
      pub Shows-inside : Shows cmp (count_of cmp (entries key ns)) (entries key ns)
      Shows-inside = record { sorted = sorted-entries ns key rises_all; positive = positive-entries ns key; counts = λ k. refl }

      pub number-parts : (es : List (K × ℕ)) → entries key ns ++ outside ≡ es → (k : K) → count_of cmp es k ≡ count_of cmp (entries key ns) k + count_of cmp outside k
      number-parts es is k = ap (λ l. count_of cmp l k) (sym is) ∙ count-append (entries key ns) outside k (positive-entries ns key) (never_both k)

      -- and all that is counted, where nothing is outside
      pub Shows-alone : (es l : List (K × ℕ)) → entries key ns ++ outside ≡ es → (length outside == 0) ≡ true → l ≡ entries key ns → Shows cmp (count_of cmp es) l
      Shows-alone es l is none e =
          let nothing : outside ≡ [] = nil_from_length outside (eqb-true (length outside) 0 none) in
          subst (λ m. Shows cmp (count_of cmp es) m) (sym e)
          (Shows-same cmp (count_of cmp (entries key ns)) (count_of cmp es) (entries key ns)
          (λ k. let n = number-parts es is k in let z = ap (λ os. count_of cmp os k) nothing in omega arith) Shows-inside)

      pub number-inside : (k : K) (p : ℕ) → place k ≡ Some p → count_of cmp (entries key ns ++ outside) k ≡ slice_index ns p
      number-inside k p at = let a = number-view k in let b = ap (number_in ns) at in let c = apart.apart k p at in omega arith

      pub number-outside : (k : K) → place k ≡ None → count_of cmp (entries key ns ++ outside) k ≡ count_of cmp outside k
      number-outside k none = let a = number-view k in let b = ap (number_in ns) none in omega arith

      -- ---- one key more, or one less

      more_at : (k : K) (p v : ℕ) → place k ≡ Some p → p < length ns → v ≡ slice_index ns p + 1
          → (q : K) → number_in (set ns p v) (place q) ≡ number_in ns (place q) + (if is_eq (cmp k q) then 1 else 0)
      more_at k p v at short more q = by (is_eq (cmp k q)) refl
        where
          elsewhere : is_eq (cmp k q) ≡ false → (r : Option ℕ) → place q ≡ r → number_in (set ns p v) r ≡ number_in ns r
          elsewhere f None e = refl
          elsewhere f (Some j) e = get_or-set_other ns p j v 0 (λ same. true≢false (sym (ap is_eq (one_place k q p at (e ∙ ap Some same))) ∙ f))

          by : (b : Bool) → is_eq (cmp k q) ≡ b → number_in (set ns p v) (place q) ≡ number_in ns (place q) + (if b then 1 else 0)
          by true f =
              let there = place_alike k q p ((Equal-is (cmp k q)).0 f) at in
              let new = ap (number_in (set ns p v)) there ∙ get_or-set_same ns p v 0 short in
              let old = ap (number_in ns) there in
              omega arith
          by false f = elsewhere f (place q) refl ∙ omega arith

      short_at : (k : K) (p : ℕ) → place k ≡ Some p → p < length ns
      short_at k p at = subst (λ n. p < n) (sym apart.places) (placed.within k p at).0

      pub apart-set : (p v : ℕ) → IsApart cmp size place (set ns p v) outside
      apart-set p v = record { places = length-set ns p v ∙ apart.places; apart = apart.apart }

    -- a key with a place
    pub raised-inside : (ns : List ℕ) (outside : List (K × ℕ)) → IsApart cmp size place ns outside → (k : K) (p : ℕ) → place k ≡ Some p
        → HasOneMore cmp (entries key ns ++ outside) (entries key (set ns p (slice_index ns p + 1)) ++ outside) k
    raised-inside ns outside apart k p at q =
        let old = number-view ns outside apart q in
        let new = number-view (set ns p (slice_index ns p + 1)) outside (apart-set ns outside apart p (slice_index ns p + 1)) q in
        let more = more_at ns outside apart k p (slice_index ns p + 1) at (short_at ns outside apart k p at) refl q in
        omega arith

    pub lowered-inside : (ns : List ℕ) (outside : List (K × ℕ)) → IsApart cmp size place ns outside → (k : K) (p : ℕ) → place k ≡ Some p → 0 < slice_index ns p
        → HasOneMore cmp (entries key (set ns p (slice_index ns p - 1)) ++ outside) (entries key ns ++ outside) k
    lowered-inside ns outside apart k p at held q =
        let fewer = set ns p (slice_index ns p - 1) in
        let short = short_at ns outside apart k p at in
        let is : slice_index fewer p ≡ slice_index ns p - 1 = get_or-set_same ns p (slice_index ns p - 1) 0 short in
        let back : set fewer p (slice_index ns p) ≡ ns = set-set ns p (slice_index ns p - 1) (slice_index ns p) ∙ set-get_or ns p 0 in
        let apart' = apart-set ns outside apart p (slice_index ns p - 1) in
        let old = number-view ns outside apart q in
        let new = number-view fewer outside apart' q in
        let more = more_at fewer outside apart' k p (slice_index ns p) at (short_at fewer outside apart' k p at) (omega arith) q in
        let there = ap (λ ms. number_in ms (place q)) back in
        omega arith

    -- a key without one
    apart-raised : (ns : List ℕ) (outside new : List (K × ℕ)) (k : K) → IsApart cmp size place ns outside → place k ≡ None → HasOneMore cmp outside new k → IsApart cmp size place ns new
    apart-raised ns outside new k apart none more = record {
      places = apart.places;
      apart = λ q p e. let m = more q in let z = apart.apart q p e in let other = not_there q p e (is_eq (cmp k q)) refl in omega arith;
    }
      where
        not_there : (q : K) (p : ℕ) → place q ≡ Some p → (b : Bool) → is_eq (cmp k q) ≡ b → ◌≡◌ {A = ℕ} (if b then 1 else 0) 0
        not_there q p e true f =
            absurd (let tie = (Equal-is (cmp k q)).0 f in let there = place_alike q k p (o.antisymm q k ∙ ap ordering_reverse tie) e in cc)
        not_there q p e false f = refl

    -- the same where it may have been refused
    pub apart-tried : {T E : Type 0} (ns : List ℕ) (outside new : List (K × ℕ)) (k : K) (r : Result T E) → IsApart cmp size place ns outside → place k ≡ None → OnOk r (HasOneMore cmp outside new k) → OnErr r (new ≡ outside) → IsApart cmp size place ns new
    apart-tried ns outside new k (Ok u) apart none more same = apart-raised ns outside new k apart none more
    apart-tried ns outside new k (Err e) apart none more same = subst (λ os. IsApart cmp size place ns os) (sym same) apart

    pub raised-outside : (ns : List ℕ) (outside new : List (K × ℕ)) (k : K) → IsApart cmp size place ns outside → place k ≡ None → HasOneMore cmp outside new k
        → HasOneMore cmp (entries key ns ++ outside) (entries key ns ++ new) k
    raised-outside ns outside new k apart none more q =
        let m = more q in
        let old = number-view ns outside apart q in
        let now = number-view ns new (apart-raised ns outside new k apart none more) q in
        omega arith

    pub raised-tried : {T E : Type 0} (ns : List ℕ) (outside new : List (K × ℕ)) (k : K) (r : Result T E) → IsApart cmp size place ns outside → place k ≡ None → OnOk r (HasOneMore cmp outside new k)
        → OnOk r (HasOneMore cmp (entries key ns ++ outside) (entries key ns ++ new) k)
    raised-tried ns outside new k (Ok u) apart none more = raised-outside ns outside new k apart none more
    raised-tried ns outside new k (Err e) apart none more = tt

    pub apart-lowered : (ns : List ℕ) (outside new : List (K × ℕ)) (k : K) → IsApart cmp size place ns outside → HasOneMore cmp new outside k → IsApart cmp size place ns new
    apart-lowered ns outside new k apart more = record { places = apart.places; apart = λ q p e. let m = more q in let z = apart.apart q p e in omega arith }

    pub lowered-outside : (ns : List ℕ) (outside new : List (K × ℕ)) (k : K) → IsApart cmp size place ns outside → HasOneMore cmp new outside k
        → HasOneMore cmp (entries key ns ++ new) (entries key ns ++ outside) k
    lowered-outside ns outside new k apart more q =
        let m = more q in
        let old = number-view ns outside apart q in
        let now = number-view ns new (apart-lowered ns outside new k apart more) q in
        omega arith

-- places at 0 have no entry
pub entries-zeros : {K : Type 0} (n : ℕ) (key : ℕ → K) → entries key (replicate n 0) ≡ []
entries-zeros zero key = refl
entries-zeros (suc n) key = entries-zeros n (λ p. key (suc p))

-- nor have those at 0 that are added behind, where the others keep their keys
pub entries-grown : {K : Type 0} (ns : List ℕ) (key new : ℕ → K) (n : ℕ) → ((p : ℕ) → p < length ns → new p ≡ key p) → entries new (ns ++ replicate n 0) ≡ entries key ns
entries-grown [] key new n kept = entries-zeros n new
entries-grown (m ∷ ns) key new n kept =
    ap (λ k. entry_before k m (entries (λ p. new (suc p)) (ns ++ replicate n 0))) (kept 0 (omega arith))
    ∙ ap (entry_before (key 0) m) (entries-grown ns (λ p. key (suc p)) (λ p. new (suc p)) n (λ p h. kept (suc p) (omega arith)))

-- without a place all are apart
pub apart-none : {K : Type 0} (cmp : K → K → Ordering) (size : ℕ) (place : K → Option ℕ) (key : ℕ → K) → ArePlaced cmp size place key → size ≡ 0 → (outside : List (K × ℕ)) → IsApart cmp size place [] outside
apart-none cmp size place key placed none outside = record { places = sym none; apart = λ k p e. absurd (let h = (placed.within k p e).0 in omega arith) }
