-- A key that was raised is held, and one that differs from another counts beside it.
use Rattle.std.specs.Prelude.{◌≡◌, ℕ, ◌-◌, Bool, true, false, if◌then◌else◌, Option, Some, None, refl}
use Rattle.std.proofs.Common.{arith, sym, ap, ◌∙◌, true≢false}
use Rattle.std.specs.Ordering.{is_eq, ordering_reverse}
use Rattle.std.specs.Cmp.{IsTotalOrder, Equal-is}
use Rattle.std.specs.declared.cmp.Ordering.{Ordering}
use Rattle.key_counts.specs.Numbers.{IsMoreBy, Holds, times_of, beside_of}

module _ {K : Type 0} (cmp : K → K → Ordering) (o : IsTotalOrder cmp) where
  pub raised_held : {X : Type 0} (seen : X → K) (old new : K → ℕ) (key : Option X) → IsMoreBy seen cmp old new key → Holds seen cmp new key
  raised_held seen old new key more q = let m = more q in omega arith

  -- a key is counted beside another where they differ
  unless_same : {X : Type 0} (seen : X → K) (x y : X) (q : K)
      → times_of seen cmp (if is_eq (cmp (seen x) (seen y)) then None else Some x) q ≡ (if is_eq (cmp (seen x) q) then 1 else 0) - (if is_eq (cmp (seen y) q) then 1 else 0)
  unless_same seen x y q = by (is_eq (cmp (seen x) (seen y))) refl
    where
      apart : (c d : Bool) → is_eq (cmp (seen x) q) ≡ c → is_eq (cmp (seen y) q) ≡ d → is_eq (cmp (seen x) (seen y)) ≡ false → ◌≡◌ {A = ℕ} (if c then 1 else 0) ((if c then 1 else 0) - (if d then 1 else 0))
      apart true true e f h =
          absurd (true≢false (sym (ap is_eq (o.congr (seen x) q (seen y) ((Equal-is (cmp (seen x) q)).0 e) ∙ o.antisymm q (seen y) ∙ ap ordering_reverse ((Equal-is (cmp (seen y) q)).0 f))) ∙ h))
      apart true false e f h = refl
      apart false true e f h = refl
      apart false false e f h = refl

      by : (b : Bool) → is_eq (cmp (seen x) (seen y)) ≡ b → times_of seen cmp (if b then None else Some x) q ≡ (if is_eq (cmp (seen x) q) then 1 else 0) - (if is_eq (cmp (seen y) q) then 1 else 0)
      by true e = let same = ap (λ r. if◌then◌else◌ {A = ℕ} (is_eq r) 1 0) (o.congr (seen x) (seen y) q ((Equal-is (cmp (seen x) (seen y))).0 e)) in omega arith
      by false e = apart (is_eq (cmp (seen x) q)) (is_eq (cmp (seen y) q)) refl refl e

  -- what is counted beside another
  pub times-beside : {X : Type 0} (seen : X → K) (key other : Option X) (q : K)
      → times_of seen cmp (beside_of (λ a b. cmp (seen a) (seen b)) key other) q ≡ times_of seen cmp key q - times_of seen cmp other q
  times-beside seen None other q = omega arith
  times-beside seen (Some x) None q = omega arith
  times-beside seen (Some x) (Some y) q = unless_same seen x y q
