-- Items that are taken out of a list together, as those that are taken out one after the other.
use Rattle.std.proofs.Common.{◌≡◌, ℕ, zero, suc, ◌-◌, ◌<◌, ◌≤◌, List, [], ◌∷◌, refl, sym, ap, ◌∙◌, subst, arith, inl, inr}
use Rattle.std.specs.Prelude.{slice_get}
use Rattle.std.specs.List.{remove}
use Rattle.std.proofs.lemmas.Bool.{cases_eq}
use Rattle.trace_seq.specs.Order.{times}
use Rattle.trace_seq.specs.Without.{taken_out, without_each, without_from, AreRising}
use Rattle.trace_seq.proofs.TimeLemmas.{times-other, times-self}
use Rattle.trace_seq.proofs.ThinLemmas.{rising-absent, unless-none, unless-some, without-same}

-- positions that rise from one on rise from those in front of it on
pub rising-from : (low high : ℕ) (ps : List ℕ) → low ≤ high → AreRising high ps → AreRising low ps
rising-from low high [] le h = tt
rising-from low high (p ∷ ps) le h = (omega (arith, le, h.0), h.1)

module _ {T : Type 0} where
  -- the same as `taken_out` in a list whose first item stands at `at`
  abbrev out_from : ℕ → List T → List ℕ → List T
  out_from at xs [] = xs
  out_from at xs (p ∷ ps) = remove (out_from at xs ps) (p - at)

  from-first : (xs : List T) (ps : List ℕ) → taken_out xs ps ≡ out_from 1 xs ps
  from-first xs [] = refl
  from-first xs (p ∷ ps) = ap (λ (l : List T). remove l (p - 1)) (from-first xs ps)

  remove-none : (n : ℕ) → (let none : List T = [] in remove none n) ≡ []
  remove-none zero = refl
  remove-none (suc n) = refl

  out-none : (at : ℕ) (ps : List ℕ) → out_from at [] ps ≡ []
  out-none at [] = refl
  out-none at (p ∷ ps) = ap (λ (l : List T). remove l (p - at)) (out-none at ps) ∙ remove-none (p - at)

  -- the first item stays where all others that are taken out stand behind it
  out-behind : (at : ℕ) (x : T) (xs : List T) (ps : List ℕ) → AreRising (suc at) ps → out_from at (x ∷ xs) ps ≡ x ∷ out_from (suc at) xs ps
  out-behind at x xs [] h = refl
  out-behind at x xs (p ∷ ps) h =
      let i : p - at ≡ suc (p - suc at) = omega (arith, h.0) in
      ap (λ (l : List T). remove l (p - at)) (out-behind at x xs ps (rising-from (suc at) (suc p) ps (omega (arith, h.0)) h.1))
      ∙ ap (remove (x ∷ out_from (suc at) xs ps)) i

  out-together : (at : ℕ) (xs : List T) (ps : List ℕ) → AreRising at ps → without_from at xs ps ≡ out_from at xs ps
  out-together at [] ps h = sym (out-none at ps)
  out-together at (x ∷ xs) [] h = ap (λ (l : List T). x ∷ l) (out-together (suc at) xs [] tt)
  out-together at (x ∷ xs) (p ∷ ps) h = elim (cases_eq p at) [
    | inl e ↦
        let up : AreRising (suc at) ps = subst (λ n. AreRising (suc n) ps) e h.1 in
        let some : 0 < times at (p ∷ ps) = subst (λ n. 0 < times at (n ∷ ps)) (sym e) (times-self at ps) in
        let same : without_from (suc at) xs (p ∷ ps) ≡ without_from (suc at) xs ps = without-same (suc at) xs (p ∷ ps) ps (λ q le. omega (arith, times-other q p (λ f. omega (arith, f, le, e)))) in
        let i : p - at ≡ 0 = omega (arith, e) in
        let right : out_from at (x ∷ xs) (p ∷ ps) ≡ out_from (suc at) xs ps = ap (remove (out_from at (x ∷ xs) ps)) i ∙ ap (λ (l : List T). remove l 0) (out-behind at x xs ps up) in
        unless-some (times at (p ∷ ps)) x (without_from (suc at) xs (p ∷ ps)) some ∙ (same ∙ (out-together (suc at) xs ps up ∙ sym right))
    | inr ne ↦
        let rising : AreRising (suc at) (p ∷ ps) = let above : suc at ≤ p = omega (arith, h.0, ne) in (above, h.1) in
        let none : times at (p ∷ ps) ≡ 0 = rising-absent (suc at) at (p ∷ ps) rising (omega arith) in
        unless-none (times at (p ∷ ps)) x (without_from (suc at) xs (p ∷ ps)) none
        ∙ (ap (λ (l : List T). x ∷ l) (out-together (suc at) xs (p ∷ ps) rising) ∙ sym (out-behind at x xs (p ∷ ps) rising))
  ]

  pub together : (xs : List T) (ps : List ℕ) → AreRising 1 ps → without_each xs ps ≡ taken_out xs ps
  together xs ps h = out-together 1 xs ps h ∙ sym (from-first xs ps)

  -- ---- an item in front of all that are taken out

  read-ahead : (xs : List T) (n i : ℕ) → i < n → slice_get (remove xs n) i ≡ slice_get xs i
  read-ahead [] zero i ahead = absurd (omega (arith, ahead))
  read-ahead [] (suc n) i ahead = refl
  read-ahead (x ∷ xs) zero i ahead = absurd (omega (arith, ahead))
  read-ahead (x ∷ xs) (suc n) zero ahead = refl
  read-ahead (x ∷ xs) (suc n) (suc i) ahead = read-ahead xs n i (omega (arith, ahead))

  pub read-kept : (xs : List T) (ps : List ℕ) (i : ℕ) → AreRising (suc (suc i)) ps → slice_get (taken_out xs ps) i ≡ slice_get xs i
  read-kept xs [] i h = refl
  read-kept xs (p ∷ ps) i h = read-ahead (taken_out xs ps) (p - 1) i (omega (arith, h.0)) ∙ read-kept xs ps i (rising-from (suc (suc i)) (suc p) ps (omega (arith, h.0)) h.1)
