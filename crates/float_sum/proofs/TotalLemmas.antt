-- A total with one float more.
use Rattle.std.proofs.Common.{◌≡◌, ◌^◌, ◌<◌, length, count_by, List, [], ◌∷◌, ◌++◌, refl, ap, sym, ◌∙◌, Bool, true, false, cond, ◌||◌, filter}
use mathlib.Core.Bool.{true≢false}
use Rattle.std.specs.List.{list_any}
use Rattle.std.proofs.lemmas.List.Elements.{filter-append}
use Rattle.std.proofs.lemmas.List.Folds.{list_any-append}
use Rattle.std.specs.Float.{Float, nan, inf, fin, float_is_finite}
use lib.Ieee.{eq, binary64, of_bits}
use native.Mathlib.Omega.{arith}
use Rattle.std.proofs.lemmas.List.Sums.{length-filter, count_by-le-length}
use Rattle.float_sum.specs.declared.float_total.FloatTotal.TheInside.{Inside}
use Rattle.float_sum.specs.Sums.{is_infinity, beside_infinities, nearest_sum, total_of}
use Rattle.float_sum.specs.HoldsTotal.{HoldsTotal}

or_false : (a : Bool) → (a || false) ≡ a
or_false true = refl
or_false false = refl

pub one_any : (p : Float → Bool) (vs ws : List Float) (v : Float) → ws ≡ vs ++ v ∷ [] → list_any p ws ≡ (list_any p vs || p v)
one_any p vs ws v e = ap (list_any p) e ∙ list_any-append p vs (v ∷ []) ∙ ap (λ (b : Bool). list_any p vs || b) (or_false (p v))

one_kept : (vs ws : List Float) (v : Float) → ws ≡ vs ++ v ∷ [] → float_is_finite v ≡ true → filter float_is_finite ws ≡ filter float_is_finite vs ++ v ∷ []
one_kept vs ws v e h = ap (filter float_is_finite) e ∙ filter-append float_is_finite vs (v ∷ []) ∙ ap (λ (b : Bool). filter float_is_finite vs ++ cond b (v ∷ []) []) h

append_none : (vs : List Float) → vs ++ [] ≡ vs
append_none [] = refl
append_none (v ∷ vs) = ap (λ (z : List Float). v ∷ z) (append_none vs)

one_passed : (vs ws : List Float) (v : Float) → ws ≡ vs ++ v ∷ [] → float_is_finite v ≡ false → filter float_is_finite ws ≡ filter float_is_finite vs
one_passed vs ws v e h = ap (filter float_is_finite) e ∙ filter-append float_is_finite vs (v ∷ []) ∙ ap (λ (b : Bool). filter float_is_finite vs ++ cond b (v ∷ []) []) h ∙ append_none (filter float_is_finite vs)

no_infinity : (s : Bool) (v : Float) → float_is_finite v ≡ true → is_infinity s v ≡ false
unfolding float_is_finite
no_infinity s nan e = refl
no_infinity s (inf t) e = absurd (true≢false (sym e))
no_infinity s (fin t m k) e = refl

pub eq_infinity : (s : Bool) (v : Float) → eq v (inf s) ≡ is_infinity s v
unfolding eq
eq_infinity s nan = refl
eq_infinity true (inf true) = refl
eq_infinity true (inf false) = refl
eq_infinity false (inf true) = refl
eq_infinity false (inf false) = refl
eq_infinity s (fin t m k) = refl

pub holds_finite : (s t : Inside) (v : Float) → HoldsTotal s → float_is_finite v ≡ true → t.added.values ≡ s.added.values ++ v ∷ [] → t.finite ≡ s.finite ++ v ∷ []
    → t.infinite ≡ s.infinite → t.minus_infinite ≡ s.minus_infinite → HoldsTotal t
holds_finite s t v h f e k i m =
    let any = λ (b : Bool). one_any (is_infinity b) s.added.values t.added.values v e ∙ ap (λ (z : Bool). list_any (is_infinity b) s.added.values || z) (no_infinity b v f) ∙ or_false (list_any (is_infinity b) s.added.values) in
    record {
      finite = k ∙ ap (λ (z : List Float). z ++ v ∷ []) h.finite ∙ sym (one_kept s.added.values t.added.values v e f);
      infinite = i ∙ h.infinite ∙ sym (any false);
      minus_infinite = m ∙ h.minus_infinite ∙ sym (any true);
    }

pub holds_other : (s t : Inside) (v : Float) → HoldsTotal s → float_is_finite v ≡ false → t.added.values ≡ s.added.values ++ v ∷ [] → t.finite ≡ s.finite
    → t.infinite ≡ (s.infinite || eq v (inf false)) → t.minus_infinite ≡ (s.minus_infinite || eq v (inf true)) → HoldsTotal t
holds_other s t v h f e k i m =
    record {
      finite = k ∙ h.finite ∙ sym (one_passed s.added.values t.added.values v e f);
      infinite = i ∙ (λ j. h.infinite j || eq_infinity false v j) ∙ sym (one_any (is_infinity false) s.added.values t.added.values v e);
      minus_infinite = m ∙ (λ j. h.minus_infinite j || eq_infinity true v j) ∙ sym (one_any (is_infinity true) s.added.values t.added.values v e);
    }

-- ---- the floats that the body names

pub infinity_bits : of_bits binary64 0x7ff0_0000_0000_0000 ≡ inf false
unfolding of_bits
infinity_bits = refl

pub minus_infinity_bits : of_bits binary64 0xfff0_0000_0000_0000 ≡ inf true
unfolding of_bits
minus_infinity_bits = refl

pub nan_bits : of_bits binary64 0x7ff8_0000_0000_0000 ≡ nan
unfolding of_bits
nan_bits = refl

-- ---- the whole

pub few_finite : (s : Inside) (vs : List Float) → s.added.values ≡ vs → HoldsTotal s → length vs < 2 ^ 40 → length s.finite < 2 ^ 40
few_finite s vs e h l =
    let a : length s.finite ≡ count_by float_is_finite s.added.values = ap length h.finite ∙ length-filter float_is_finite s.added.values in
    let b = count_by-le-length float_is_finite s.added.values in
    let n = ap length e in
    omega arith

pub total_is : (s : Inside) (vs : List Float) (a b : Bool) → s.added.values ≡ vs → HoldsTotal s → s.infinite ≡ a → s.minus_infinite ≡ b → beside_infinities a b (nearest_sum s.finite) ≡ total_of vs
total_is s vs a b e h p q =
    let i = sym p ∙ h.infinite in
    let m = sym q ∙ h.minus_infinite in
    (λ j. beside_infinities (i j) (m j) (nearest_sum (h.finite j))) ∙ ap total_of e
