-- Laws of ranges: there is one, and at most one.
use Rattle.std.specs.Prelude.{◌≡◌, Bool, true, false, cond, List, [], ◌∷◌, map, All, Contains, Option, Some, None, refl}
use Rattle.std.proofs.Common.{arith, sym, ap, ap₂, ◌∙◌}
use Rattle.std.specs.Ordering.{is_lt, is_gt, ord_min, ord_max, ordering_reverse}
use Rattle.std.specs.Cmp.{upto, tied_itself}
use Rattle.std.specs.declared.cmp.Ordering.{Ordering}
use Rattle.std.specs.declared.cmp.Ordering.TheVariants.{Less, Equal, Greater}
use Rattle.std.proofs.lemmas.List.Elements.{All-cons, All-nil, All-weaker, All-contains, Contains-append_left, Contains-append_right, Contains-push, All-same}
use Rattle.trace_record.specs.Facts.{Facts}
use Rattle.key_counts.specs.RatioOrder.{ratio_cmp, ratio_total, exact_ratios}
use Rattle.key_counts.specs.declared.ratio.Ratio.{Ratio}
use Rattle.range_stats.specs.declared.quantity.Quantity.{Quantity}
use Rattle.range_stats.specs.Ranges.{value_under, Spans, IsRangeOf, IsRange, range_with, range_over, range_of}
use Rattle.range_stats.specs.Laws.{AtMostOneRange}

pub gt_reverse : (r : Ordering) → is_gt (ordering_reverse r) ≡ is_lt r
gt_reverse Less = refl
gt_reverse Equal = refl
gt_reverse Greater = refl

lt_not_gt : (r : Ordering) → is_lt r ≡ true → is_gt r ≡ false
lt_not_gt Less e = refl
lt_not_gt Equal e = refl
lt_not_gt Greater e = cc

eq_not_gt : (r : Ordering) → r ≡ Equal → is_gt r ≡ false
eq_not_gt r e = ap is_gt e

-- what is not below is not exceeded
not_below : (x y : Ratio) → is_lt (ratio_cmp x y) ≡ false → is_gt (ratio_cmp y x) ≡ false
not_below x y e = ap is_gt (ratio_total.antisymm y x) ∙ gt_reverse (ratio_cmp x y) ∙ e

pub itself : (x : Ratio) → is_gt (ratio_cmp x x) ≡ false
itself x = eq_not_gt (ratio_cmp x x) (tied_itself ratio_total x)

pub at_front : (v : Ratio) (vs : List Ratio) → Contains (v ∷ vs) v
at_front v vs = Contains-append_left (v ∷ []) vs v (Contains-push [] v)

pub behind_front : (v : Ratio) (vs : List Ratio) (x : Ratio) → Contains vs x → Contains (v ∷ vs) x
behind_front v vs x h = Contains-append_right (v ∷ []) vs x h

-- the lesser of v and the least of the rest
least_widened : (v l : Ratio) (vs : List Ratio) → Contains vs l → All (λ w. is_gt (ratio_cmp l w) ≡ false) vs
    → Contains (v ∷ vs) (ord_min ratio_cmp v l) × All (λ w. is_gt (ratio_cmp (ord_min ratio_cmp v l) w) ≡ false) (v ∷ vs)
least_widened v l vs h a = by (is_lt (ratio_cmp l v)) refl
  where
    by : (b : Bool) → is_lt (ratio_cmp l v) ≡ b → Contains (v ∷ vs) (cond b l v) × All (λ w. is_gt (ratio_cmp (cond b l v) w) ≡ false) (v ∷ vs)
    by true e = (behind_front v vs l h, All-cons (λ w. is_gt (ratio_cmp l w) ≡ false) v vs (lt_not_gt (ratio_cmp l v) e) a)
    by false e = (at_front v vs, All-cons (λ w. is_gt (ratio_cmp v w) ≡ false) v vs (itself v) (All-weaker (λ w. is_gt (ratio_cmp l w) ≡ false) (λ w. is_gt (ratio_cmp v w) ≡ false) (λ w p. upto ratio_total v l w (not_below l v e) p) vs a))

-- the greater of v and the greatest of the rest
greatest_widened : (v g : Ratio) (vs : List Ratio) → Contains vs g → All (λ w. is_gt (ratio_cmp w g) ≡ false) vs
    → Contains (v ∷ vs) (ord_max ratio_cmp v g) × All (λ w. is_gt (ratio_cmp w (ord_max ratio_cmp v g)) ≡ false) (v ∷ vs)
greatest_widened v g vs h a = by (is_lt (ratio_cmp g v)) refl
  where
    by : (b : Bool) → is_lt (ratio_cmp g v) ≡ b → Contains (v ∷ vs) (cond b v g) × All (λ w. is_gt (ratio_cmp w (cond b v g)) ≡ false) (v ∷ vs)
    by true e = (at_front v vs, All-cons (λ w. is_gt (ratio_cmp w v) ≡ false) v vs (itself v) (All-weaker (λ w. is_gt (ratio_cmp w g) ≡ false) (λ w. is_gt (ratio_cmp w v) ≡ false) (λ w p. upto ratio_total w g v p (lt_not_gt (ratio_cmp g v) e)) vs a))
    by false e = (behind_front v vs g h, All-cons (λ w. is_gt (ratio_cmp w g) ≡ false) v vs (not_below g v e) a)

-- the range that is computed is one
pub IsRangeOf-range_over : (vs : List Ratio) → IsRangeOf vs (range_over vs)
IsRangeOf-range_over [] = refl
IsRangeOf-range_over (v ∷ vs) = by (range_over vs) (IsRangeOf-range_over vs)
  where
    by : (r : Option (Ratio × Ratio)) → IsRangeOf vs r → Spans (v ∷ vs) (range_with v r).0 (range_with v r).1
    by None e = record {
      least_occurs = at_front v vs;
      greatest_occurs = at_front v vs;
      none_below = All-cons (λ w. is_gt (ratio_cmp v w) ≡ false) v vs (itself v) (All-same (λ w. is_gt (ratio_cmp v w) ≡ false) vs [] e (All-nil (λ w. is_gt (ratio_cmp v w) ≡ false)));
      none_above = All-cons (λ w. is_gt (ratio_cmp w v) ≡ false) v vs (itself v) (All-same (λ w. is_gt (ratio_cmp w v) ≡ false) vs [] e (All-nil (λ w. is_gt (ratio_cmp w v) ≡ false)));
    }
    by (Some r) s =
        let low = least_widened v r.0 vs s.least_occurs s.none_below in
        let high = greatest_widened v r.1 vs s.greatest_occurs s.none_above in
        record { least_occurs = low.0; none_below = low.1; greatest_occurs = high.0; none_above = high.1 }

pub IsRange-range_of : (w : Quantity) (fs : List Facts) → IsRange w fs (range_of w fs)
IsRange-range_of w fs = IsRangeOf-range_over (map (λ f. value_under w f) fs)

-- neither above the other
pub same_ends : (x y : Ratio) → is_gt (ratio_cmp x y) ≡ false → is_gt (ratio_cmp y x) ≡ false → x ≡ y
same_ends x y p q = exact_ratios x y (by (ratio_cmp x y) p (sym (gt_reverse (ratio_cmp x y)) ∙ ap is_gt (sym (ratio_total.antisymm y x)) ∙ q))
  where
    by : (r : Ordering) → is_gt r ≡ false → is_lt r ≡ false → r ≡ Equal
    by Less p q = cc
    by Equal p q = refl
    by Greater p q = cc

one_span : (vs : List Ratio) (l g m h : Ratio) → Spans vs l g → Spans vs m h → (l ≡ m) × (g ≡ h)
one_span vs l g m h a b = (
  same_ends l m (All-contains (λ v. is_gt (ratio_cmp l v) ≡ false) vs m a.none_below b.least_occurs) (All-contains (λ v. is_gt (ratio_cmp m v) ≡ false) vs l b.none_below a.least_occurs),
  same_ends g h (All-contains (λ v. is_gt (ratio_cmp v h) ≡ false) vs g b.none_above a.greatest_occurs) (All-contains (λ v. is_gt (ratio_cmp v g) ≡ false) vs h a.none_above b.greatest_occurs),
)

nothing_in_none : {G : Type 0} (vs : List Ratio) (x : Ratio) → vs ≡ [] → Contains vs x → G
nothing_in_none [] x e h = let low = h.1 in absurd (omega arith)
nothing_in_none (v ∷ vs) x e h = cc

-- there is at most one range
pub one_range : (vs : List Ratio) (r s : Option (Ratio × Ratio)) → IsRangeOf vs r → IsRangeOf vs s → r ≡ s
one_range vs None None a b = refl
one_range vs None (Some s) a b = nothing_in_none vs s.0 a b.least_occurs
one_range vs (Some r) None a b = nothing_in_none vs r.0 b a.least_occurs
one_range vs (Some r) (Some s) a b = let e = one_span vs r.0 r.1 s.0 s.1 a b in ap₂ (λ x y. Some (x, y)) e.0 e.1

-- a range that meets the law is the one that is computed
pub IsRange-is : (w : Quantity) (fs : List Facts) (r : Option (Ratio × Ratio)) → IsRange w fs r → r ≡ range_of w fs
IsRange-is w fs r a = one_range (map (λ f. value_under w f) fs) r (range_of w fs) a (IsRange-range_of w fs)

pub at_most_one_range : AtMostOneRange
at_most_one_range w fs r s a b = one_range (map (λ f. value_under w f) fs) r s a b
