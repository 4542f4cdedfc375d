-- How long traces are together that are taken out.
use Rattle.std.proofs.Common.{◌≡◌, ℕ, zero, suc, ◌+◌, ◌-◌, ◌<◌, ◌≤◌, List, [], ◌∷◌, ◌++◌, length, length-append, drop, get_or, refl, sym, ap, ◌∙◌, subst, arith, zero-add, Some}
use Rattle.std.specs.Prelude.{slice_get, All}
use Rattle.std.specs.List.{concat, remove}
use Rattle.std.proofs.lemmas.List.Elements.{All-get_or}
use Rattle.std.proofs.lemmas.Option.{slice_get-get_or, slice_get_within, get_or_from_slice_get}
use Rattle.trace_seq.specs.Without.{taken_out, without_each, AreRising}
use Rattle.trace_seq.proofs.TogetherLemmas.{together, read-kept}
use Rattle.trace_store.proofs.LengthLemmas.{total, total-remove}

pub drop-next : (xs : List ℕ) (k d : ℕ) → k < length xs → drop k xs ≡ get_or xs k d ∷ drop (suc k) xs
drop-next [] k d short = absurd (omega (arith, short))
drop-next (x ∷ xs) zero d short = refl
drop-next (x ∷ xs) (suc k) d short = drop-next xs k d (omega (arith, short))

-- the traces behind one rise from the next on
pub rising-behind : (from k d : ℕ) (ps : List ℕ) → AreRising from ps → k < length ps → (from ≤ get_or ps k d) × AreRising (suc (get_or ps k d)) (drop (suc k) ps)
rising-behind from k d [] up short = absurd (omega (arith, short))
rising-behind from zero d (p ∷ ps) up short = up
rising-behind from (suc k) d (p ∷ ps) up short =
    let rest = rising-behind (suc p) k d ps up.1 (omega (arith, short)) in
    (omega (arith, rest.0, up.0), rest.1)

-- one more of them
total-next : (ts : List (List ℕ)) (ps : List ℕ) (k : ℕ) → AreRising 1 ps → All (λ p. p ≤ length ts) ps → k < length ps
    → total (taken_out ts (drop k ps)) + length (get_or ts (get_or ps k 0 - 1) []) ≡ total (taken_out ts (drop (suc k) ps))
total-next ts ps k up last short =
    let p = get_or ps k 0 in
    let next = rising-behind 1 k 0 ps up short in
    let rest : List (List ℕ) = taken_out ts (drop (suc k) ps) in
    let there : p - 1 < length ts = omega (arith, next.0, All-get_or (λ q. q ≤ length ts) ps k 0 short last) in
    let e : suc (suc (p - 1)) ≡ suc p = omega (arith, next.0) in
    let kept : slice_get rest (p - 1) ≡ Some (get_or ts (p - 1) []) = read-kept ts (drop (suc k) ps) (p - 1) (subst (λ n. AreRising n (drop (suc k) ps)) (sym e) next.1) ∙ slice_get-get_or ts (p - 1) [] there in
    let cut : taken_out ts (drop k ps) ≡ remove rest (p - 1) = ap (taken_out ts) (drop-next ps k 0 short) in
    omega (arith, ap (λ (l : List (List ℕ)). total l) cut, ap (λ (t : List ℕ). length t) (get_or_from_slice_get rest (p - 1) (get_or ts (p - 1) []) [] kept), total-remove rest (p - 1) (slice_get_within rest (p - 1) (get_or ts (p - 1) []) kept))

-- the bytes of the first k of them, where all others are out
pub record AreCounted (ts : List (List ℕ)) (ps : List ℕ) (k bytes : ℕ) : Type 0 where
  pub sum : bytes + total (taken_out ts ps) ≡ total (taken_out ts (drop k ps))
  pub within : total (taken_out ts (drop k ps)) ≤ total ts

total-less : (ts : List (List ℕ)) (ps : List ℕ) → total (taken_out ts ps) ≤ total ts
total-less ts [] = omega arith
total-less ts (p ∷ ps) = omega (arith, total-less ts ps, total-shorter (taken_out ts ps) (p - 1))
  where
    total-shorter : (xs : List (List ℕ)) (i : ℕ) → total (remove xs i) ≤ total xs
    total-shorter [] zero = omega arith
    total-shorter [] (suc i) = omega arith
    total-shorter (x ∷ xs) zero =
        let out : total (remove (x ∷ xs) 0) ≡ total xs = refl in
        omega (arith, out, length-append x (concat xs))
    total-shorter (x ∷ xs) (suc i) =
        let out : total (remove (x ∷ xs) (suc i)) ≡ length (x ++ concat (remove xs i)) = refl in
        omega (arith, out, length-append x (concat (remove xs i)), length-append x (concat xs), total-shorter xs i)

pub none-counted : (ts : List (List ℕ)) (ps : List ℕ) → AreCounted ts ps 0 0
none-counted ts ps = record { sum = zero-add (total (taken_out ts ps)); within = total-less ts ps }

pub one-counted : (ts : List (List ℕ)) (ps : List ℕ) (k bytes n : ℕ) → AreCounted ts ps k bytes → AreRising 1 ps → All (λ p. p ≤ length ts) ps → k < length ps → n ≡ length (get_or ts (get_or ps k 0 - 1) [])
    → (bytes + n ≤ total ts) × AreCounted ts ps (k + 1) (bytes + n)
one-counted ts ps k bytes n h up last short is =
    let next = total-next ts ps k up last short in
    let e : k + 1 ≡ suc k = omega arith in
    let less = total-less ts (drop (suc k) ps) in (
      omega (arith, h.sum, next, is, less),
      subst (λ i. AreCounted ts ps i (bytes + n)) (sym e) (record { sum = omega (arith, h.sum, next, is); within = less }),
    )

pub all-counted : (ts : List (List ℕ)) (ps : List ℕ) (k bytes : ℕ) → AreCounted ts ps k bytes → AreRising 1 ps → length ps ≤ k → bytes + total (without_each ts ps) ≡ total ts
all-counted ts ps k bytes h up past = omega (arith, h.sum, ap (λ (l : List (List ℕ)). total l) (together ts ps up), ap (λ (l : List ℕ). total (taken_out ts l)) (drop-past ps k past))
  where
    drop-past : (xs : List ℕ) (i : ℕ) → length xs ≤ i → drop i xs ≡ []
    drop-past [] zero le = refl
    drop-past [] (suc i) le = refl
    drop-past (x ∷ xs) zero le = absurd (omega (arith, le))
    drop-past (x ∷ xs) (suc i) le = drop-past xs i (omega (arith, le))
