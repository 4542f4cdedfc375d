-- Counts by packed keys are counts by the coordinates in them.
use Rattle.std.specs.Prelude.{◌≡◌, ℕ, ◌+◌, ◌<◌, Bool, true, false, cond, if◌then◌else◌, List, [], ◌∷◌, map, unwrap_or, Option, Some, None, refl}
use Rattle.std.proofs.Common.{arith, sym, ap, ap₂, ◌∙◌, subst, ◌⊎◌, inl, inr, ⊎_elim}
use Rattle.std.proofs.lemmas.List.Sums.{sum_by-cons}
use Rattle.std.specs.Cmp.{Equal-is}
use Rattle.std.specs.Map.{lookup}
use Rattle.std.specs.BTreeMap.{is_at}
use Rattle.std.specs.Ordering.{is_eq, is_gt}
use Rattle.key_counts.specs.Counts.{count_of, HasOneMore}
use Rattle.key_counts.specs.Packed.{ratio_in, packed_cmp}
use Rattle.key_counts.specs.RatioOrder.{ratio_cmp, exact_ratios}
use Rattle.key_counts.specs.Rising.{times_in}
use Rattle.key_counts.specs.declared.packed_ratio.PackedRatio.{PackedRatio}
use Rattle.key_counts.specs.declared.ratio.Ratio.{Ratio}
use Rattle.key_counts.proofs.ShownLemmas.{times_in-map}
use Rattle.key_counts.specs.Ends.{IsBetween, IsSpan}
use Rattle.range_stats.specs.Unpacked.{with_ratios}

lookup_unpacked : (es : List (PackedRatio × ℕ)) (p : PackedRatio) → lookup (is_at (packed_cmp p)) es ≡ lookup (is_at (ratio_cmp (ratio_in p))) (with_ratios es)
lookup_unpacked [] p = refl
lookup_unpacked (e ∷ es) p = ap (λ (v : Option ℕ). cond (is_eq (packed_cmp p e.0)) (Some e.1) v) (lookup_unpacked es p)

-- a packed key has the number of its coordinate
pub count_unpacked : (es : List (PackedRatio × ℕ)) (p : PackedRatio) → count_of packed_cmp es p ≡ count_of ratio_cmp (with_ratios es) (ratio_in p)
count_unpacked es p = ap (λ (v : Option ℕ). unwrap_or v 0) (lookup_unpacked es p)

-- the coordinate is that of a packed one
abbrev pub IsPacked : Ratio → Type 0
IsPacked v = (p : PackedRatio) × (ratio_in p ≡ v)

-- a coordinate that is counted is that of a packed one
attained : (es : List (PackedRatio × ℕ)) (v : Ratio) → (count_of ratio_cmp (with_ratios es) v ≡ 0) ⊎ IsPacked v
attained [] v = inl refl
attained (e ∷ es) v = by (is_eq (ratio_cmp v (ratio_in e.0))) refl (attained es v)
  where
    by : (b : Bool) → is_eq (ratio_cmp v (ratio_in e.0)) ≡ b → (count_of ratio_cmp (with_ratios es) v ≡ 0) ⊎ IsPacked v
        → (unwrap_or (cond b (Some e.1) (lookup (is_at (ratio_cmp v)) (with_ratios es))) 0 ≡ 0) ⊎ IsPacked v
    by true h r = inr (e.0, sym (exact_ratios v (ratio_in e.0) ((Equal-is (ratio_cmp v (ratio_in e.0))).0 h)))
    by false h r = r

-- what holds of the coordinate of each packed one, and where the coordinate is not counted, holds of all
pub at_each : (G : Ratio → Type 0) (es : List (PackedRatio × ℕ)) (v : Ratio) → ((p : PackedRatio) → G (ratio_in p)) → (count_of ratio_cmp (with_ratios es) v ≡ 0 → G v) → G v
at_each G es v packed none = ⊎_elim none (λ q. subst G q.1 (packed q.0)) (attained es v)

-- one more at a packed key is one more at its coordinate
pub one_more_unpacked : (old new : List (PackedRatio × ℕ)) (k : PackedRatio) → HasOneMore packed_cmp old new k → HasOneMore ratio_cmp (with_ratios old) (with_ratios new) (ratio_in k)
one_more_unpacked old new k h v = at_each G new v at_packed (λ z. at_each G old v at_packed (λ w. by z w (is_eq (ratio_cmp (ratio_in k) v)) refl))
  where
    G : Ratio → Type 0
    G u = count_of ratio_cmp (with_ratios new) u ≡ count_of ratio_cmp (with_ratios old) u + (if is_eq (ratio_cmp (ratio_in k) u) then 1 else 0)

    at_packed : (p : PackedRatio) → G (ratio_in p)
    at_packed p = sym (count_unpacked new p) ∙ h p ∙ ap (λ n. n + (if is_eq (packed_cmp k p) then 1 else 0)) (count_unpacked old p)

    by : count_of ratio_cmp (with_ratios new) v ≡ 0 → count_of ratio_cmp (with_ratios old) v ≡ 0 → (b : Bool) → is_eq (ratio_cmp (ratio_in k) v) ≡ b → G v
    by z w true e = subst G (exact_ratios (ratio_in k) v ((Equal-is (ratio_cmp (ratio_in k) v)).0 e)) (at_packed k)
    by z w false e = z ∙ ap₂ (λ n (b : Bool). n + (if b then 1 else 0)) (sym w) (sym e)

-- keys that occur are packed ones
times_attained : (ks : List PackedRatio) (v : Ratio) → (times_in ratio_cmp (map ratio_in ks) v ≡ 0) ⊎ IsPacked v
times_attained [] v = inl refl
times_attained (k ∷ ks) v = by (is_eq (ratio_cmp (ratio_in k) v)) refl (times_attained ks v) (sum_by-cons (λ (q : Ratio). cond (is_eq (ratio_cmp q v)) 1 0) (ratio_in k) (map ratio_in ks))
  where
    by : (b : Bool) → is_eq (ratio_cmp (ratio_in k) v) ≡ b → (times_in ratio_cmp (map ratio_in ks) v ≡ 0) ⊎ IsPacked v
        → times_in ratio_cmp (map ratio_in (k ∷ ks)) v ≡ cond b 1 0 + times_in ratio_cmp (map ratio_in ks) v → (times_in ratio_cmp (map ratio_in (k ∷ ks)) v ≡ 0) ⊎ IsPacked v
    by true h r s = inr (k, exact_ratios (ratio_in k) v ((Equal-is (ratio_cmp (ratio_in k) v)).0 h))
    by false h r s = ⊎_elim (λ z. inl (s ∙ ap (λ n. 0 + n) z)) inr r

-- counts of packed keys are counts of their coordinates
pub times_unpacked : (es : List (PackedRatio × ℕ)) (ks : List PackedRatio) → ((p : PackedRatio) → count_of packed_cmp es p ≡ times_in packed_cmp ks p)
    → (v : Ratio) → count_of ratio_cmp (with_ratios es) v ≡ times_in ratio_cmp (map ratio_in ks) v
times_unpacked es ks h v = at_each G es v at_packed (λ z. ⊎_elim (λ w. z ∙ sym w) (λ q. subst G q.1 (at_packed q.0)) (times_attained ks v))
  where
    G : Ratio → Type 0
    G u = count_of ratio_cmp (with_ratios es) u ≡ times_in ratio_cmp (map ratio_in ks) u

    at_packed : (p : PackedRatio) → G (ratio_in p)
    at_packed p = sym (count_unpacked es p) ∙ h p ∙ sym (times_in-map ratio_cmp ratio_in (λ (q : PackedRatio) (u : Ratio). is_eq (ratio_cmp (ratio_in q) u)) (λ q u. refl) ks (ratio_in p))

-- none is counted
pub none_unpacked : (es : List (PackedRatio × ℕ)) → IsSpan packed_cmp (count_of packed_cmp es) None → IsSpan ratio_cmp (count_of ratio_cmp (with_ratios es)) None
none_unpacked es h v = at_each (λ u. count_of ratio_cmp (with_ratios es) u ≡ 0) es v (λ p. sym (count_unpacked es p) ∙ h p) (λ z. z)

-- the coordinates of the least and the greatest packed key are the least and the greatest
pub between_unpacked : (es : List (PackedRatio × ℕ)) (l g : PackedRatio) → IsBetween packed_cmp (count_of packed_cmp es) l g → IsBetween ratio_cmp (count_of ratio_cmp (with_ratios es)) (ratio_in l) (ratio_in g)
between_unpacked es l g h = record {
  least_occurs = subst (λ n. 0 < n) (count_unpacked es l) h.least_occurs;
  greatest_occurs = subst (λ n. 0 < n) (count_unpacked es g) h.greatest_occurs;
  none_below = λ v. at_each (λ u. 0 < count_of ratio_cmp (with_ratios es) u → is_gt (ratio_cmp (ratio_in l) u) ≡ false) es v
      (λ p o. h.none_below p (subst (λ n. 0 < n) (sym (count_unpacked es p)) o)) (λ z o. absurd (omega arith));
  none_above = λ v. at_each (λ u. 0 < count_of ratio_cmp (with_ratios es) u → is_gt (ratio_cmp u (ratio_in g)) ≡ false) es v
      (λ p o. h.none_above p (subst (λ n. 0 < n) (sym (count_unpacked es p)) o)) (λ z o. absurd (omega arith));
}
