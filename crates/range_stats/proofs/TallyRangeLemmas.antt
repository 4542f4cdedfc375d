-- The range that stands in a tally.
use Rattle.std.specs.Prelude.{◌≡◌, ◌==◌, ℕ, ℤ, ◌<◌, ◌+◌, Bool, true, false, ◌&&◌, cond, if◌then◌else◌, List, [], ◌∷◌, map, count_by, Contains, All, Option, Some, None, refl}
use Rattle.std.proofs.Common.{arith, sym, ap, ap₂, ◌∙◌, subst, eqb}
use Rattle.std.proofs.lemmas.List.Sums.{sum_by-cons}
use Rattle.std.proofs.lemmas.List.Elements.{All-cons, All-nil, All-weaker, All-contains}
use Rattle.std.specs.Ordering.{is_eq, is_gt, int_eq}
use Rattle.std.specs.Cmp.{Equal-is, tied_itself, both_ways}
use Rattle.std.proofs.lemmas.Bool.{eqb-true, eq-eqb}
use Rattle.trace_record.specs.Facts.{Facts}
use Rattle.trace_record.specs.Keys.{inline, crossline, offset, coordinate_x, coordinate_y}
use Rattle.range_stats.specs.RangeKeys.{keys_of_ranges}
use Rattle.trace_record.specs.Tally.{Tally, tally_of, Same}
use Rattle.key_counts.specs.Rising.{times_in}
use Rattle.key_counts.specs.Coordinates.{whole}
use Rattle.key_counts.specs.RatioOrder.{ratio_cmp, ratio_total, ratio_ties, exact_ratios}
use Rattle.key_counts.specs.declared.ratio.Ratio.{Ratio}
use Rattle.key_counts.proofs.ShownLemmas.{times_in-map}
use Rattle.range_stats.specs.declared.quantity.Quantity.{Quantity}
use Rattle.range_stats.specs.declared.quantity.Quantity.TheVariants.{Inline, Crossline, Offset, X, Y}
use Rattle.range_stats.specs.Ranges.{value_under, IsRangeOf, range_of}
use Rattle.range_stats.specs.OfTally.{traces_with, IsRangeIn}
use Rattle.range_stats.specs.Laws.{AtMostOneRangeIn, RangeOfTally}
use Rattle.range_stats.proofs.RangeLemmas.{same_ends, at_front, behind_front, IsRangeOf-range_over}

-- ---- tallies that say the same have at most one range

traces_with-Same : (w : Quantity) (t u : Tally) → Same t u → (v : Ratio) → traces_with w t v ≡ traces_with w u v
traces_with-Same Inline t u p v = ap (λ n. if v.den == 1 then n else 0) (p.count (inline v.num))
traces_with-Same Crossline t u p v = ap (λ n. if v.den == 1 then n else 0) (p.count (crossline v.num))
traces_with-Same Offset t u p v = ap (λ n. if v.den == 1 then n else 0) (p.count (offset v.num))
traces_with-Same X t u p v = p.count (coordinate_x v)
traces_with-Same Y t u p v = p.count (coordinate_y v)

none_occurs : {G : Type 0} (m n : ℕ) → m ≡ n → m ≡ 0 → 0 < n → G
none_occurs m n e z p = absurd (omega arith)

more : (m n : ℕ) → m ≡ n → 0 < m → 0 < n
more m n e p = omega arith

pub one_range_in : AtMostOneRangeIn
one_range_in w t u None None p a b = refl
one_range_in w t u None (Some s) p a b = none_occurs _ _ (traces_with-Same w t u p s.0) (a s.0) b.least_occurs
one_range_in w t u (Some r) None p a b = none_occurs _ _ (sym (traces_with-Same w t u p r.0)) (b r.0) a.least_occurs
one_range_in w t u (Some r) (Some s) p a b =
    let same = traces_with-Same w t u p in
    let least = same_ends r.0 s.0 (a.none_below s.0 (more _ _ (sym (same s.0)) b.least_occurs)) (b.none_below r.0 (more _ _ (same r.0) a.least_occurs)) in
    let greatest = same_ends r.1 s.1 (b.none_above r.1 (more _ _ (same r.1) a.greatest_occurs)) (a.none_above s.1 (more _ _ (sym (same s.1)) b.greatest_occurs)) in
    ap₂ (λ l g. Some (l, g)) least greatest

-- ---- the tally of a list of traces counts its values

is_one : (d : ℕ) → eqb 1 d ≡ (d == 1)
is_one d = both_ways _ _ (λ h. eq-eqb d 1 (sym (eqb-true 1 d h))) (λ h. eq-eqb 1 d (sym (eqb-true d 1 h)))

none_of : {F : Type 0} (fs : List F) → count_by (λ f. false) fs ≡ 0
none_of [] = refl
none_of (f ∷ fs) = let e : count_by (λ g. false) (f ∷ fs) ≡ 0 + count_by (λ g. false) fs = sum_by-cons (λ g. 0) f fs in let i = none_of fs in omega arith

and_test : {F : Type 0} (p : F → Bool) (b : Bool) (fs : List F) → count_by (λ f. p f && b) fs ≡ (if b then count_by p fs else 0)
and_test p true fs = ap (λ q. count_by q fs) (λ i f. and_true (p f) i)
  where
    and_true : (a : Bool) → (a && true) ≡ a
    and_true true = refl
    and_true false = refl
and_test p false fs = ap (λ q. count_by q fs) (λ i f. and_false (p f) i) ∙ none_of fs
  where
    and_false : (a : Bool) → (a && false) ≡ false
    and_false true = refl
    and_false false = refl

-- a whole number is equal to a ratio of its parts
whole_eq : (n : ℤ) (v : Ratio) → is_eq (ratio_cmp (whole n) v) ≡ (int_eq n v.num && (v.den == 1))
whole_eq n v = sym (ratio_ties (whole n) v) ∙ ap (λ b. int_eq n v.num && b) (is_one v.den)

counts_whole : (number : Facts → ℤ) (fs : List Facts) (v : Ratio)
    → times_in ratio_cmp (map (λ f. whole (number f)) fs) v ≡ (if v.den == 1 then count_by (λ f. int_eq (number f) v.num) fs else 0)
counts_whole number fs v =
    times_in-map ratio_cmp (λ f. whole (number f)) (λ f q. int_eq (number f) q.num && (q.den == 1)) (λ f q. whole_eq (number f) q) fs v
    ∙ and_test (λ f. int_eq (number f) v.num) (v.den == 1) fs

counts_under : (w : Quantity) (fs : List Facts) (v : Ratio) → times_in ratio_cmp (map (λ f. value_under w f) fs) v ≡ traces_with w (tally_of keys_of_ranges fs) v
counts_under Inline fs v = counts_whole (λ f. f.inline) fs v
counts_under Crossline fs v = counts_whole (λ f. f.crossline) fs v
counts_under Offset fs v = counts_whole (λ f. f.offset) fs v
counts_under X fs v = times_in-map ratio_cmp (λ f. f.x) (λ f q. is_eq (ratio_cmp f.x q)) (λ f q. refl) fs v
counts_under Y fs v = times_in-map ratio_cmp (λ f. f.y) (λ f q. is_eq (ratio_cmp f.y q)) (λ f q. refl) fs v

-- ---- and has the range of the list

times_in-cons : (x : Ratio) (vs : List Ratio) (v : Ratio) → times_in ratio_cmp (x ∷ vs) v ≡ (if is_eq (ratio_cmp x v) then 1 else 0) + times_in ratio_cmp vs v
times_in-cons x vs v = sum_by-cons (λ q. cond (is_eq (ratio_cmp q v)) 1 0) x vs

-- each value is counted
each_counted : (vs : List Ratio) → All (λ v. 0 < times_in ratio_cmp vs v) vs
each_counted [] = All-nil (λ v. 0 < times_in ratio_cmp [] v)
each_counted (x ∷ vs) =
    All-cons (λ v. 0 < times_in ratio_cmp (x ∷ vs) v) x vs
    (let e = times_in-cons x vs x ∙ ap (λ o. (if is_eq o then 1 else 0) + times_in ratio_cmp vs x) (tied_itself ratio_total x) in omega arith)
    (All-weaker (λ v. 0 < times_in ratio_cmp vs v) (λ v. 0 < times_in ratio_cmp (x ∷ vs) v) (λ v p. let e = times_in-cons x vs v in omega arith) vs (each_counted vs))

-- what is counted is a value
counted_occurs : (vs : List Ratio) (v : Ratio) → 0 < times_in ratio_cmp vs v → Contains vs v
counted_occurs [] v p = absurd (omega arith)
counted_occurs (x ∷ vs) v p = by (is_eq (ratio_cmp x v)) refl (counted_occurs vs v)
  where
    by : (b : Bool) → is_eq (ratio_cmp x v) ≡ b → (0 < times_in ratio_cmp vs v → Contains vs v) → Contains (x ∷ vs) v
    by true e i = subst (λ q. Contains (x ∷ vs) q) (exact_ratios x v ((Equal-is (ratio_cmp x v)).0 e)) (at_front x vs)
    by false e i = behind_front x vs v (i (let c = times_in-cons x vs v ∙ ap (λ (b : Bool). (if b then 1 else 0) + times_in ratio_cmp vs v) e in omega arith))

range_in_list : (w : Quantity) (t : Tally) (vs : List Ratio) → ((v : Ratio) → times_in ratio_cmp vs v ≡ traces_with w t v) → (r : Option (Ratio × Ratio)) → IsRangeOf vs r → IsRangeIn w t r
range_in_list w t vs same None e = λ v. sym (same v) ∙ ap (λ qs. times_in ratio_cmp qs v) e
range_in_list w t vs same (Some r) s = record {
  least_occurs = more _ _ (same r.0) (All-contains (λ v. 0 < times_in ratio_cmp vs v) vs r.0 (each_counted vs) s.least_occurs);
  greatest_occurs = more _ _ (same r.1) (All-contains (λ v. 0 < times_in ratio_cmp vs v) vs r.1 (each_counted vs) s.greatest_occurs);
  none_below = λ v p. All-contains (λ q. is_gt (ratio_cmp r.0 q) ≡ false) vs v s.none_below (counted_occurs vs v (more _ _ (sym (same v)) p));
  none_above = λ v p. All-contains (λ q. is_gt (ratio_cmp q r.1) ≡ false) vs v s.none_above (counted_occurs vs v (more _ _ (sym (same v)) p));
}

pub range_of_tally : RangeOfTally
range_of_tally w fs t r p a =
    one_range_in w t (tally_of keys_of_ranges fs) r (range_of w fs) p a
    (range_in_list w (tally_of keys_of_ranges fs) (map (λ f. value_under w f) fs) (counts_under w fs) (range_of w fs) (IsRangeOf-range_over (map (λ f. value_under w f) fs)))
