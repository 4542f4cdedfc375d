-- A sum with one float more.
use Rattle.std.proofs.Common.{◌≡◌, ℕ, ◌+◌, ◌*◌, ◌^◌, ◌<◌, ◌≤◌, List, [], ◌∷◌, ◌++◌, length, get_or, ap, sym, ◌∙◌, subst, Bool, true, false, sum_by}
use native.Mathlib.Omega.{arith}
use native.Mathlib.Nat.{le_of_lt}
use lib.ListN.{replicate}
use Rattle.std.proofs.lemmas.List.{length-append, get_or-replicate}
use Rattle.std.proofs.lemmas.List.Elements.{All-append}
use Rattle.std.proofs.lemmas.List.Sums.{sum_by-append}
use Rattle.std.specs.Float.{Float, float_is_finite}
use Rattle.float_sum.specs.declared.exact_sum.ExactSum.TheInside.{Inside}
use Rattle.float_sum.specs.Worth.{worth, IsWithin}
use Rattle.float_sum.specs.Sums.{AreFinite, is_negative, units_of, plus_of, minus_of}
use Rattle.float_sum.specs.HoldsSum.{HoldsSum}
use Rattle.float_sum.proofs.WordLemmas.{widen}
use Rattle.float_sum.proofs.RoundLemmas.{of_negative, of_positive}

pub zeros : (b k d : ℕ) → k < 68 → get_or (replicate 68 0) k d ≤ b
zeros b k d h = subst (λ (z : ℕ). z ≤ b) (sym (get_or-replicate 68 k 0 d h)) (omega arith)

pub one_longer : (vs ws : List Float) (v : Float) → ws ≡ vs ++ v ∷ [] → length ws ≡ length vs + 1
one_longer vs ws v e = ap length e ∙ length-append vs (v ∷ [])

sum_more : (f : Float → ℕ) (vs ws : List Float) (v : Float) → ws ≡ vs ++ v ∷ [] → sum_by f ws ≡ sum_by f vs + f v
sum_more f vs ws v e = let s : sum_by f ws ≡ sum_by f vs + (0 + f v) = ap (sum_by f) e ∙ sum_by-append f vs (v ∷ []) in omega arith

finite_more : (vs ws : List Float) (v : Float) → ws ≡ vs ++ v ∷ [] → AreFinite vs → float_is_finite v ≡ true → AreFinite ws
finite_more vs ws v e h f = subst AreFinite (sym e) (All-append (λ w. float_is_finite w ≡ true) vs (v ∷ []) h (one v f))
  where
    one : (v : Float) → float_is_finite v ≡ true → AreFinite (v ∷ [])
    one v f Prim.Native.Nat.zero d p = f
    one v f (Prim.Native.Nat.suc k) d p = absurd (omega arith)

-- what the words of the sign grow by, and what those of the other sign do not
record Grows (f : Float → ℕ) (vs : List Float) (v : Float) (xs ys : List ℕ) (x : ℕ) : Type 0 where
  worth_is : worth ys ≡ worth xs + x
  is : f v ≡ x
  within : IsWithin (length vs * 2 ^ 84 + 2 ^ 84) ys
  small : x ≤ 2 ^ 2098

record Held (f : Float → ℕ) (vs : List Float) (xs : List ℕ) : Type 0 where
  sum : worth xs ≡ sum_by f vs
  room : IsWithin (length vs * 2 ^ 84) xs
  small : worth xs ≤ length vs * 2 ^ 2098

grown : (f : Float → ℕ) (vs ws : List Float) (v : Float) (xs ys : List ℕ) (x : ℕ) → ws ≡ vs ++ v ∷ [] → Held f vs xs → Grows f vs v xs ys x → Held f ws ys
grown f vs ws v xs ys x e h g =
    let n = one_longer vs ws v e in
    let s = sum_more f vs ws v e in
    let a = h.sum in
    let b = g.worth_is in
    let i = g.is in
    let l = h.small in
    let m = g.small in
    record {
      sum = omega arith;
      room = let q : length vs * 2 ^ 84 + 2 ^ 84 ≤ length ws * 2 ^ 84 = omega arith in widen (length vs * 2 ^ 84 + 2 ^ 84) (length ws * 2 ^ 84) ys ys Rattle.std.proofs.Common.refl q g.within;
      small = omega arith;
    }

kept : (f : Float → ℕ) (vs ws : List Float) (v : Float) (xs ys : List ℕ) → ws ≡ vs ++ v ∷ [] → ys ≡ xs → f v ≡ 0 → Held f vs xs → Held f ws ys
kept f vs ws v xs ys e k z h =
    let n = one_longer vs ws v e in
    let s = sum_more f vs ws v e in
    let a = h.sum in
    let b = ap worth k in
    let l = h.small in
    record {
      sum = omega arith;
      room = let q : length vs * 2 ^ 84 ≤ length ws * 2 ^ 84 = omega arith in widen (length vs * 2 ^ 84) (length ws * 2 ^ 84) xs ys k q h.room;
      small = omega arith;
    }

pub holds_negative : (s t : Inside) (v : Float) (x : ℕ) → HoldsSum s → t.added.values ≡ s.added.values ++ v ∷ [] → float_is_finite v ≡ true → is_negative v ≡ true → x ≡ units_of v → x < 2 ^ 2098
    → t.plus ≡ s.plus → worth t.minus ≡ worth s.minus + x → length t.minus ≡ length s.minus → IsWithin (length s.added.values * 2 ^ 84 + 2 ^ 84) t.minus → HoldsSum t
holds_negative s t v x h e f n u l p m c w =
    let vs = s.added.values in
    let z = of_negative v n in
    let a = kept plus_of vs t.added.values v s.plus t.plus e p z.0 (record { sum = h.plus; room = h.plus_room; small = h.plus_small }) in
    let b = grown minus_of vs t.added.values v s.minus t.minus x e (record { sum = h.minus; room = h.minus_room; small = h.minus_small }) (record { worth_is = m; is = z.1 ∙ sym u; within = w; small = le_of_lt l }) in
    record { plus = a.sum; minus = b.sum; plus_words = ap length p ∙ h.plus_words; minus_words = c ∙ h.minus_words; plus_room = a.room; minus_room = b.room; plus_small = a.small; minus_small = b.small; finite = finite_more vs t.added.values v e h.finite f }

pub holds_positive : (s t : Inside) (v : Float) (x : ℕ) → HoldsSum s → t.added.values ≡ s.added.values ++ v ∷ [] → float_is_finite v ≡ true → is_negative v ≡ false → x ≡ units_of v → x < 2 ^ 2098
    → t.minus ≡ s.minus → worth t.plus ≡ worth s.plus + x → length t.plus ≡ length s.plus → IsWithin (length s.added.values * 2 ^ 84 + 2 ^ 84) t.plus → HoldsSum t
holds_positive s t v x h e f n u l p m c w =
    let vs = s.added.values in
    let z = of_positive v n in
    let a = kept minus_of vs t.added.values v s.minus t.minus e p z.1 (record { sum = h.minus; room = h.minus_room; small = h.minus_small }) in
    let b = grown plus_of vs t.added.values v s.plus t.plus x e (record { sum = h.plus; room = h.plus_room; small = h.plus_small }) (record { worth_is = m; is = z.0 ∙ sym u; within = w; small = le_of_lt l }) in
    record { plus = b.sum; minus = a.sum; plus_words = c ∙ h.plus_words; minus_words = ap length p ∙ h.minus_words; plus_room = b.room; minus_room = a.room; plus_small = b.small; minus_small = a.small; finite = finite_more vs t.added.values v e h.finite f }

-- the words have room for the sum
pub fits_words : (w n l : ℕ) → w ≤ n * 2 ^ 2098 → n < 2 ^ 40 → l ≡ 68 → w < 2 ^ (32 * l)
fits_words w n l h m e = subst (λ (z : ℕ). w < 2 ^ (32 * z)) (sym e) (omega arith)
