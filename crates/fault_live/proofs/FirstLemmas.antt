-- The first positions that one pass over the traces keeps, and what it writes at each trace.
use Rattle.std.specs.Prelude.{◌≡◌, ℕ, ℤ, ◌+◌, ◌<◌, Bool, true, false, ◌&&◌, cond, List, [], ◌∷◌, ◌++◌, length, nat_lt, Option, Some, None, unwrap_or, refl}
use Rattle.std.proofs.Common.{arith, sym, ap, ap₂, ◌∙◌}
use Rattle.std.specs.List.{position_from}
use Rattle.std.specs.Ordering.{is_eq, int_eq, int_cmp}
use Rattle.std.specs.Cmp.{Equal-is}
use Rattle.std.proofs.lemmas.Map.Lookups.{exact_signed}
use Rattle.std.proofs.lemmas.Bool.Decides.{nat_tests}
use Rattle.trace_record.specs.Facts.{Facts}
use Rattle.trace_record.specs.Keys.{triple}
use Rattle.fault_live.specs.FaultKeys.{keys_of_faults}
use Rattle.trace_record.specs.Tally.{tally_of}
use Rattle.key_counts.proofs.KeyLemmas.{is_eq-triple}
use Rattle.fault_live.specs.Faults.{same_triple, repeat_fault, first_with}
use Rattle.window_counts.specs.Places.{triple_cmp}
use Rattle.fault_live.proofs.OnceLemmas.{same-flip, same_itself, not_before, counted_itself, once_is_not_repeated}

-- inline, crossline and offset together
abbrev pub key : Facts → ℤ × ℤ × ℤ
key f = (f.inline, f.crossline, f.offset)

-- where the test holds at f, it holds first before f or at it
behind : (t : Facts → Bool) (f : Facts) → t f ≡ true → (fs gs : List Facts) (n : ℕ) → position_from t n (fs ++ f ∷ gs) ≡ Some (unwrap_or (position_from t n fs) (n + length fs))
behind t f e [] gs n = ap (λ b. cond b (Some n) (position_from t (n + 1) gs)) e ∙ ap Some (omega arith)
behind t f e (g ∷ fs) gs n = by (t g) (behind t f e fs gs (n + 1))
  where
    by : (b : Bool) → position_from t (n + 1) (fs ++ f ∷ gs) ≡ Some (unwrap_or (position_from t (n + 1) fs) (n + 1 + length fs))
        → cond b (Some n) (position_from t (n + 1) (fs ++ f ∷ gs)) ≡ Some (unwrap_or (cond b (Some n) (position_from t (n + 1) fs)) (n + length (g ∷ fs)))
    by true i = refl
    by false i = i ∙ ap (λ m. Some (unwrap_or (position_from t (n + 1) fs) m)) (omega arith)

-- where it does not hold at f, f adds nothing
passed : (t : Facts → Bool) (f : Facts) → t f ≡ false → (fs : List Facts) (n : ℕ) → position_from t n (fs ++ f ∷ []) ≡ position_from t n fs
passed t f e [] n = ap (λ b. cond b (Some n) None) e
passed t f e (g ∷ fs) n = ap (λ o. cond (t g) (Some n) o) (passed t f e fs (n + 1))

both : (a b : Bool) → (a && b) ≡ true → (a ≡ true) × (b ≡ true)
both true true e = (refl, refl)
both true false e = cc
both false b e = cc

with_false : (a : Bool) → (a && false) ≡ false
with_false true = refl
with_false false = refl

equal : (a b : ℤ) → int_eq a b ≡ true → a ≡ b
equal a b e = exact_signed a b ((Equal-is (int_cmp a b)).0 e)

same_keys : (f g : Facts) → same_triple f g ≡ true → key f ≡ key g
same_keys f g e =
    let p = both _ _ e in
    let q = both _ _ p.0 in
    let i = equal f.inline g.inline q.0 in
    let x = equal f.crossline g.crossline q.1 in
    let o = equal f.offset g.offset p.1 in
    λ t. (i t, x t, o t)

compared : (f g : Facts) → is_eq (triple_cmp (key f) (key g)) ≡ same_triple g f
compared f g = is_eq-triple (int_cmp f.inline g.inline) (int_cmp f.crossline g.crossline) (int_cmp f.offset g.offset) ∙ same-flip f g

more_than : (n : ℕ) → 1 < n → nat_lt 1 n ≡ true
more_than n h = grind (arith, nat_tests)

module _ (count : ℤ × ℤ × ℤ → ℕ) where
  -- the places of the triples that are counted more than once are their first among these traces
  abbrev pub AreFirst : (ℤ × ℤ × ℤ → Option ℕ) → List Facts → Type 0
  AreFirst m fs = (g : Facts) → 1 < count (key g) → m (key g) ≡ first_with fs g

  module _ (m : ℤ × ℤ × ℤ → Option ℕ) (fs : List Facts) (f : Facts) (p : ℕ) (at : p ≡ 1 + length fs) (first : AreFirst m fs) where
    -- one trace more
    pub still_first : (n : ℤ × ℤ × ℤ → Option ℕ) → ((q : ℤ × ℤ × ℤ) → n q ≡ cond (nat_lt 1 (count (key f)) && is_eq (triple_cmp (key f) q)) (Some (unwrap_or (m (key f)) p)) (m q))
        → AreFirst n (fs ++ f ∷ [])
    still_first n h g more = by (same_triple g f) refl
      where
        by : (b : Bool) → same_triple g f ≡ b → n (key g) ≡ first_with (fs ++ f ∷ []) g
        by true e =
            let k = same_keys g f e in
            h (key g)
            ∙ ap (λ b. cond b (Some (unwrap_or (m (key f)) p)) (m (key g))) (ap₂ (λ a b. a && b) (more_than _ more') (compared f g ∙ e))
            ∙ ap (λ o. Some (unwrap_or o p)) (ap m (sym k) ∙ first g more)
            ∙ ap (λ l. Some (unwrap_or (first_with fs g) l)) at
            ∙ sym (behind (same_triple g) f e fs [] 1)
          where
            more' : 1 < count (key f)
            more' = rw (← same_keys g f e) more
        by false e =
            h (key g)
            ∙ ap (λ b. cond b (Some (unwrap_or (m (key f)) p)) (m (key g))) (ap (λ b. nat_lt 1 (count (key f)) && b) (compared f g ∙ e) ∙ with_false (nat_lt 1 (count (key f))))
            ∙ first g more
            ∙ sym (passed (same_triple g) f e fs 1)

    -- what the trace repeats
    pub repeats : (gs : List Facts) (r : ℕ) → r ≡ cond (nat_lt 1 (count (key f))) (unwrap_or (m (key f)) p) p
        → count (key f) ≡ (tally_of keys_of_faults (fs ++ f ∷ gs)).count (triple f.inline f.crossline f.offset)
        → repeat_fault p (Some r) ≡ repeat_fault p (first_with (fs ++ f ∷ gs) f)
    repeats gs r is counted = by (nat_lt 1 (count (key f))) refl
      where
        by : (b : Bool) → nat_lt 1 (count (key f)) ≡ b → repeat_fault p (Some r) ≡ repeat_fault p (first_with (fs ++ f ∷ gs) f)
        by true e =
            ap (λ q. repeat_fault p (Some q)) (is ∙ ap (λ b. cond b (unwrap_or (m (key f)) p) p) e ∙ ap (λ o. unwrap_or o p) (first f (grind (arith, nat_tests))) ∙ ap (λ l. unwrap_or (first_with fs f) l) at)
            ∙ sym (ap (λ o. repeat_fault p o) (behind (same_triple f) f (same_itself f) fs gs 1))
        by false e =
            let some = counted_itself fs gs f in
            let one : (tally_of keys_of_faults (fs ++ f ∷ gs)).count (triple f.inline f.crossline f.offset) ≡ 1 = grind (arith, nat_tests) in
            ap (λ q. repeat_fault p (Some q)) (is ∙ ap (λ b. cond b (unwrap_or (m (key f)) p) p) e)
            ∙ not_before p
            ∙ sym (once_is_not_repeated fs gs f one)
            ∙ ap (λ q. repeat_fault q (first_with (fs ++ f ∷ gs) f)) (omega arith)
