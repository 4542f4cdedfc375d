-- Records that are taken out one after the other, the last first.
use Rattle.std.proofs.Common.{◌≡◌, ℕ, zero, suc, ◌+◌, ◌-◌, ◌<◌, ◌≤◌, List, [], ◌∷◌, length, drop, get_or, refl, sym, ap, ◌∙◌, subst, arith, Option, Some, None}
use Rattle.std.specs.Prelude.{slice_get, All}
use Rattle.std.specs.List.{remove}
use Rattle.std.proofs.lemmas.List.Elements.{All-get_or}
use Rattle.std.proofs.lemmas.Option.{slice_get-get_or}
use Rattle.trace_seq.specs.Without.{taken_out, AreRising}
use Rattle.trace_seq.proofs.TogetherLemmas.{read-kept}
use Rattle.trace_store.proofs.GoneLemmas.{drop-next, rising-behind}
use Rattle.trace_record.specs.declared.record.Record.{Record}

-- the record that goes next, where the last k are out
pub record GoesNext (rs : List Record) (ps : List ℕ) (k p : ℕ) : Type 0 where
  pub first : 1 ≤ p
  pub there : p - 1 < length rs
  pub kept : slice_get (taken_out rs (drop (length ps - k) ps)) (p - 1) ≡ slice_get rs (p - 1)
  pub after : taken_out rs (drop (length ps - (k + 1)) ps) ≡ remove (taken_out rs (drop (length ps - k) ps)) (p - 1)

pub goes_next : (rs : List Record) (ps : List ℕ) (k p : ℕ) → AreRising 1 ps → All (λ q. q ≤ length rs) ps → k < length ps → p ≡ get_or ps (length ps - 1 - k) 0 → GoesNext rs ps k p
goes_next rs ps k p up last less is =
    let i = length ps - 1 - k in
    let short : i < length ps = omega (arith, less) in
    let q = get_or ps i 0 in
    let next = rising-behind 1 i 0 ps up short in
    let behind : suc i ≡ length ps - k = omega (arith, less) in
    let here : i ≡ length ps - (k + 1) = omega (arith, less) in
    let high : q ≤ length rs = All-get_or (λ (n : ℕ). n ≤ length rs) ps i 0 short last in
    let two : suc q ≡ suc (suc (q - 1)) = omega (arith, next.0) in
    let kept : slice_get (taken_out rs (drop (suc i) ps)) (q - 1) ≡ slice_get rs (q - 1) = read-kept rs (drop (suc i) ps) (q - 1) (subst (λ n. AreRising n (drop (suc i) ps)) two next.1) in
    let after : taken_out rs (drop i ps) ≡ remove (taken_out rs (drop (suc i) ps)) (q - 1) = ap (taken_out rs) (drop-next ps i 0 short) in
    subst (GoesNext rs ps k) (sym is) (record {
      first = next.0;
      there = omega (arith, high, next.0);
      kept = subst (λ n. slice_get (taken_out rs (drop n ps)) (q - 1) ≡ slice_get rs (q - 1)) behind kept;
      after = subst (λ n. taken_out rs (drop n ps) ≡ remove (taken_out rs (drop (length ps - k) ps)) (q - 1)) here (subst (λ n. taken_out rs (drop i ps) ≡ remove (taken_out rs (drop n ps)) (q - 1)) behind after);
    })

-- it is there
pub not_missed : (rs : List Record) (i : ℕ) → i < length rs → slice_get rs i ≡ None → ⊥
not_missed rs i there none = let e = there_is rs i there in cc
  where
    there_is : (xs : List Record) (n : ℕ) → n < length xs → (r : Record) × (slice_get xs n ≡ Some r)
    there_is [] n short = absurd (omega (arith, short))
    there_is (x ∷ xs) zero short = (x, refl)
    there_is (x ∷ xs) (suc n) short = there_is xs n (omega (arith, short))

all-dropped : (ps : List ℕ) → drop (length ps - 0) ps ≡ []
all-dropped ps = let e : length ps - 0 ≡ length ps = omega arith in ap (λ n. drop n ps) e ∙ past ps
  where
    past : (qs : List ℕ) → drop (length qs) qs ≡ []
    past [] = refl
    past (q ∷ qs) = past qs

-- none is out at first
pub none_out : (rs : List Record) (ps : List ℕ) → taken_out rs (drop (length ps - 0) ps) ≡ rs
none_out rs ps = ap (taken_out rs) (all-dropped ps)

-- and all are at last
pub all_out : (rs : List Record) (ps : List ℕ) (k : ℕ) → length ps ≤ k → taken_out rs (drop (length ps - k) ps) ≡ taken_out rs ps
all_out rs ps k past = let e : length ps - k ≡ 0 = omega (arith, past) in ap (λ n. taken_out rs (drop n ps)) e
