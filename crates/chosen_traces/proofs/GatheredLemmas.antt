-- What is changed in traces that were brought to the front, and brought back, is changed in them where they stand.
use Rattle.std.proofs.Common.{◌≡◌, ◌≢◌, ℕ, ◌+◌, ◌-◌, ◌<◌, ◌≤◌, List, [], ◌∷◌, ◌++◌, length, map, get_or, set, inl, inr, refl, sym, ap, subst, ◌∙◌, arith}
use Rattle.std.specs.List.{swap}
use Rattle.std.proofs.lemmas.Bool.{cases_eq}
use Rattle.std.proofs.lemmas.List.{ext_get_or}
use Rattle.std.proofs.lemmas.List.{length-set, get_or-set_same, get_or-set_other}
use Rattle.std.proofs.lemmas.List.Edits.{swapped_from_swap, length-swap}
use Rattle.trace_store.specs.Swapped.{with_swapped}
use Rattle.bench_rules.specs.Conditions.{AreRising}
use Rattle.bench_rules.proofs.ChosenLemmas.{rising-earlier}
use Rattle.chosen_traces.specs.Gathered.{pairs_from, pairs_back}

-- ---- two items in the place of one another

module _ {T : Type 0} (d : T) where
  pub at-first : (xs : List T) (i j : ℕ) → i < length xs → j < length xs → get_or (swap xs i j) i d ≡ get_or xs j d
  at-first xs i j p q = (swapped_from_swap xs (swap xs i j) i j d p q refl).0

  pub at-second : (xs : List T) (i j : ℕ) → i < length xs → j < length xs → get_or (swap xs i j) j d ≡ get_or xs i d
  at-second xs i j p q = (swapped_from_swap xs (swap xs i j) i j d p q refl).1

  pub elsewhere : (xs : List T) (i j k : ℕ) → i < length xs → j < length xs → k ≢ i → k ≢ j → get_or (swap xs i j) k d ≡ get_or xs k d
  elsewhere xs i j k p q n m = (swapped_from_swap xs (swap xs i j) i j d p q refl).2 k n m

  -- twice is nothing
  pub swap-swap : (xs : List T) (i j : ℕ) → i < length xs → j < length xs → swap (swap xs i j) i j ≡ xs
  swap-swap xs i j p q =
      let ys : List T = swap xs i j in
      let long : length ys ≡ length xs = length-swap xs i j in
      let p' : i < length ys = omega (arith, p, long) in
      let q' : j < length ys = omega (arith, q, long) in
      ext_get_or d (swap ys i j) xs (length-swap ys i j ∙ long) (λ k less. elim (cases_eq k i) [
        | inl e ↦ ap (λ n. get_or (swap ys i j) n d) e ∙ at-first ys i j p' q' ∙ at-second xs i j p q ∙ ap (λ n. get_or xs n d) (sym e)
        | inr n ↦ elim (cases_eq k j) [
          | inl e ↦ ap (λ n. get_or (swap ys i j) n d) e ∙ at-second ys i j p' q' ∙ at-first xs i j p q ∙ ap (λ n. get_or xs n d) (sym e)
          | inr m ↦ elsewhere ys i j k p' q' n m ∙ elsewhere xs i j k p q n m
        ]
      ])

  -- an item that is changed in the place of another one, and then brought back
  swap-set-swap : (xs : List T) (i j : ℕ) (y : T) → i < length xs → j < length xs → swap (set (swap xs i j) i y) i j ≡ set xs j y
  swap-set-swap xs i j y p q =
      let ys : List T = swap xs i j in
      let zs : List T = set ys i y in
      let long : length ys ≡ length xs = length-swap xs i j in
      let long' : length zs ≡ length xs = length-set ys i y ∙ long in
      let p' : i < length zs = omega (arith, p, long') in
      let q' : j < length zs = omega (arith, q, long') in
      ext_get_or d (swap zs i j) (set xs j y) (length-swap zs i j ∙ long' ∙ sym (length-set xs j y)) (λ k less. elim (cases_eq k j) [
        | inl e ↦ ap (λ n. get_or (swap zs i j) n d) e ∙ at-second zs i j p' q' ∙ get_or-set_same ys i y d (omega (arith, p, long)) ∙ sym (ap (λ n. get_or (set xs j y) n d) e ∙ get_or-set_same xs j y d q)
        | inr m ↦ elim (cases_eq k i) [
          | inl e ↦
              let apart : j ≢ i = λ f. m (e ∙ sym f) in
              ap (λ n. get_or (swap zs i j) n d) e ∙ at-first zs i j p' q' ∙ get_or-set_other ys i j y d apart ∙ at-second xs i j p q
              ∙ sym (ap (λ n. get_or (set xs j y) n d) e ∙ get_or-set_other xs j i y d (λ f. apart (sym f)))
          | inr n ↦ elsewhere zs i j k p' q' n m ∙ get_or-set_other ys i k y d n ∙ elsewhere xs i j k p q n m ∙ sym (get_or-set_other xs j k y d m)
        ]
      ])

  -- another item is changed before or behind
  swap-set : (xs : List T) (i j k : ℕ) (y : T) → i < length xs → j < length xs → k < length xs → k ≢ i → k ≢ j → swap (set xs k y) i j ≡ set (swap xs i j) k y
  swap-set xs i j k y p q r n m =
      let zs : List T = set xs k y in
      let ys : List T = swap xs i j in
      let long : length zs ≡ length xs = length-set xs k y in
      let p' : i < length zs = omega (arith, p, long) in
      let q' : j < length zs = omega (arith, q, long) in
      ext_get_or d (swap zs i j) (set ys k y) (length-swap zs i j ∙ long ∙ sym (length-set ys k y ∙ length-swap xs i j)) (λ l less. elim (cases_eq l k) [
        | inl e ↦
            ap (λ o. get_or (swap zs i j) o d) e ∙ elsewhere zs i j k p' q' n m ∙ get_or-set_same xs k y d r
            ∙ sym (ap (λ o. get_or (set ys k y) o d) e ∙ get_or-set_same ys k y d (omega (arith, r, length-swap xs i j)))
        | inr a ↦ elim (cases_eq l i) [
          | inl e ↦
              ap (λ o. get_or (swap zs i j) o d) e ∙ at-first zs i j p' q' ∙ get_or-set_other xs k j y d (λ f. m (sym f))
              ∙ sym (ap (λ o. get_or (set ys k y) o d) e ∙ get_or-set_other ys k i y d (λ f. n (sym f)) ∙ at-first xs i j p q)
          | inr b ↦ elim (cases_eq l j) [
            | inl e ↦
                ap (λ o. get_or (swap zs i j) o d) e ∙ at-second zs i j p' q' ∙ get_or-set_other xs k i y d (λ f. n (sym f))
                ∙ sym (ap (λ o. get_or (set ys k y) o d) e ∙ get_or-set_other ys k j y d (λ f. m (sym f)) ∙ at-second xs i j p q)
            | inr c ↦ elsewhere zs i j l p' q' b c ∙ get_or-set_other xs k l y d a ∙ sym (get_or-set_other ys k l y d a ∙ elsewhere xs i j l p q b c)
          ]
        ]
      ])

  -- ---- pairs one after another

  pub swapped-long : (xs : List T) (pairs : List (ℕ × ℕ)) → length (with_swapped xs pairs) ≡ length xs
  swapped-long xs [] = refl
  swapped-long xs (pair ∷ pairs) = swapped-long (swap xs (pair.0 - 1) (pair.1 - 1)) pairs ∙ length-swap xs (pair.0 - 1) (pair.1 - 1)

  pub swapped-more : (xs : List T) (pairs : List (ℕ × ℕ)) (p : ℕ × ℕ) → with_swapped xs (pairs ++ p ∷ []) ≡ swap (with_swapped xs pairs) (p.0 - 1) (p.1 - 1)
  swapped-more xs [] p = refl
  swapped-more xs (q ∷ pairs) p = swapped-more (swap xs (q.0 - 1) (q.1 - 1)) pairs p

  -- all are brought back
  pub brought_back : (xs : List T) (a : ℕ) (ps : List ℕ) → 1 ≤ a → AreRising a (length xs) ps → with_swapped (with_swapped xs (pairs_from a ps)) (pairs_back a ps) ≡ xs
  brought_back xs a [] low up = refl
  brought_back xs a (p ∷ ps) low up =
      let i : a - 1 < length xs = omega (arith, low, up.0, up.1) in
      let j : p - 1 < length xs = omega (arith, low, up.0, up.1) in
      let ys : List T = swap xs (a - 1) (p - 1) in
      let rest : AreRising (a + 1) (length ys) ps = subst (λ n. AreRising (a + 1) n ps) (sym (length-swap xs (a - 1) (p - 1))) (rising-earlier (p + 1) (a + 1) (length xs) ps (omega (arith, up.0)) up.2) in
      swapped-more (with_swapped ys (pairs_from (a + 1) ps)) (pairs_back (a + 1) ps) (a, p)
      ∙ ap (λ l. swap l (a - 1) (p - 1)) (brought_back ys (a + 1) ps (omega arith) rest)
      ∙ swap-swap xs (a - 1) (p - 1) i j

-- ---- what is changed

module _ {T : Type 0} (d : T) where
  -- each item at its position, changed by what stands beside it
  abbrev pub changed : List (ℕ × (T → T)) → List T → List T
  changed [] xs = xs
  changed (e ∷ es) xs = changed es (set xs (e.0 - 1) (e.1 (get_or xs (e.0 - 1) d)))

  abbrev pub firsts : List (ℕ × (T → T)) → List ℕ
  firsts es = map (λ e. e.0) es

  -- the same changes of the items from position a on
  abbrev pub in_front : ℕ → List (ℕ × (T → T)) → List (ℕ × (T → T))
  in_front a [] = []
  in_front a (e ∷ es) = (a, e.1) ∷ in_front (a + 1) es

  -- changes behind two items leave these where they are
  changed-swap : (es : List (ℕ × (T → T))) (xs : List T) (i j k : ℕ) → i < length xs → j < length xs → i + 1 < k → j + 1 < k → AreRising k (length xs) (firsts es) → swap (changed es xs) i j ≡ changed es (swap xs i j)
  changed-swap [] xs i j k p q less less' up = refl
  changed-swap (e ∷ es) xs i j k p q less less' up =
      let at : ℕ = e.0 - 1 in
      let inside : at < length xs = omega (arith, less, up.0, up.1) in
      let off : at ≢ i = λ f. omega (arith, f, less, up.0) in
      let off' : at ≢ j = λ f. omega (arith, f, less', up.0) in
      let y : T = e.1 (get_or xs at d) in
      let long : length (set xs at y) ≡ length xs = length-set xs at y in
      let read : get_or (swap xs i j) at d ≡ get_or xs at d = elsewhere d xs i j at p q off off' in
      changed-swap es (set xs at y) i j (e.0 + 1) (omega (arith, p, long)) (omega (arith, q, long)) (omega (arith, less, up.0)) (omega (arith, less', up.0)) (subst (λ n. AreRising (e.0 + 1) n (firsts es)) (sym long) up.2)
      ∙ ap (changed es) (swap-set d xs i j at y p q inside off off' ∙ ap (λ z. set (swap xs i j) at (e.1 z)) (sym read))

  -- pairs behind an item leave it where it is
  pub swapped-read : (xs : List T) (i a : ℕ) (ps : List ℕ) → i + 1 < a → AreRising a (length xs) ps → get_or (with_swapped xs (pairs_from a ps)) i d ≡ get_or xs i d
  swapped-read xs i a [] less up = refl
  swapped-read xs i a (p ∷ ps) less up =
      let ys : List T = swap xs (a - 1) (p - 1) in
      let rest : AreRising (a + 1) (length ys) ps = subst (λ n. AreRising (a + 1) n ps) (sym (length-swap xs (a - 1) (p - 1))) (rising-earlier (p + 1) (a + 1) (length xs) ps (omega (arith, up.0)) up.2) in
      swapped-read ys i (a + 1) ps (omega (arith, less)) rest
      ∙ elsewhere d xs (a - 1) (p - 1) i (omega (arith, less, up.0, up.1)) (omega (arith, less, up.0, up.1)) (λ f. omega (arith, f, less)) (λ f. omega (arith, f, less, up.0))

  swapped-set : (xs : List T) (i a : ℕ) (ps : List ℕ) (y : T) → i < length xs → i + 1 < a → AreRising a (length xs) ps → with_swapped (set xs i y) (pairs_from a ps) ≡ set (with_swapped xs (pairs_from a ps)) i y
  swapped-set xs i a [] y inside less up = refl
  swapped-set xs i a (p ∷ ps) y inside less up =
      let ys : List T = swap xs (a - 1) (p - 1) in
      let long : length ys ≡ length xs = length-swap xs (a - 1) (p - 1) in
      let rest : AreRising (a + 1) (length ys) ps = subst (λ n. AreRising (a + 1) n ps) (sym long) (rising-earlier (p + 1) (a + 1) (length xs) ps (omega (arith, up.0)) up.2) in
      ap (λ l. with_swapped l (pairs_from (a + 1) ps)) (swap-set d xs (a - 1) (p - 1) i y (omega (arith, less, up.0, up.1)) (omega (arith, less, up.0, up.1)) inside (λ f. omega (arith, f, less)) (λ f. omega (arith, f, less, up.0)))
      ∙ swapped-set ys i (a + 1) ps y (omega (arith, inside, long)) (omega (arith, less)) rest

  -- what is changed in front, and brought back, is changed where it stands
  pub changed_in_front : (es : List (ℕ × (T → T))) (xs : List T) (a : ℕ) → 1 ≤ a → AreRising a (length xs) (firsts es)
      → with_swapped (changed (in_front a es) (with_swapped xs (pairs_from a (firsts es)))) (pairs_back a (firsts es)) ≡ changed es xs
  changed_in_front [] xs a low up = refl
  changed_in_front (e ∷ es) xs a low up =
      let ps : List ℕ = firsts es in
      let i : ℕ = a - 1 in
      let j : ℕ = e.0 - 1 in
      let p : i < length xs = omega (arith, low, up.0, up.1) in
      let q : j < length xs = omega (arith, low, up.0, up.1) in
      let ys : List T = swap xs i j in
      let long : length ys ≡ length xs = length-swap xs i j in
      let rest : AreRising (a + 1) (length xs) ps = rising-earlier (e.0 + 1) (a + 1) (length xs) ps (omega (arith, up.0)) up.2 in
      let rest' : AreRising (a + 1) (length ys) ps = subst (λ n. AreRising (a + 1) n ps) (sym long) rest in
      let y : T = e.1 (get_or xs j d) in
      let zs : List T = set ys i y in
      let long' : length zs ≡ length xs = length-set ys i y ∙ long in
      let read : get_or (with_swapped ys (pairs_from (a + 1) ps)) i d ≡ get_or xs j d = swapped-read ys i (a + 1) ps (omega (arith, low)) rest' ∙ at-first d xs i j p q in
      let front : set (with_swapped ys (pairs_from (a + 1) ps)) i (e.1 (get_or (with_swapped ys (pairs_from (a + 1) ps)) i d)) ≡ with_swapped zs (pairs_from (a + 1) ps) =
      ap (λ z. set (with_swapped ys (pairs_from (a + 1) ps)) i (e.1 z)) read ∙ sym (swapped-set ys i (a + 1) ps y (omega (arith, p, long)) (omega (arith, low)) rest') in
      let again : AreRising (e.0 + 1) (length zs) ps = subst (λ n. AreRising (e.0 + 1) n ps) (sym long') up.2 in
      swapped-more d (changed (in_front (a + 1) es) (set (with_swapped ys (pairs_from (a + 1) ps)) i (e.1 (get_or (with_swapped ys (pairs_from (a + 1) ps)) i d)))) (pairs_back (a + 1) ps) (a, e.0)
      ∙ ap (λ l. swap (with_swapped (changed (in_front (a + 1) es) l) (pairs_back (a + 1) ps)) i j) front
      ∙ ap (λ l. swap l i j) (changed_in_front es zs (a + 1) (omega arith) (subst (λ n. AreRising (a + 1) n ps) (sym long') rest))
      ∙ changed-swap es zs i j (e.0 + 1) (omega (arith, p, long')) (omega (arith, q, long')) (omega (arith, low, up.0)) (omega (arith, low, up.0)) again
      ∙ ap (changed es) (swap-set-swap d xs i j y p q)
