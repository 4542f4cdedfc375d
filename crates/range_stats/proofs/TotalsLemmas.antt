-- The totals of traces: of all their samples, and as they stand in a tally.
use Rattle.std.specs.Prelude.{◌≡◌, ◌⊎◌, ℕ, ℤ, pos, ◌+◌, ◌<◌, ◌+ℤ◌, ◌≤ℤ◌, Bool, true, false, if◌then◌else◌, List, [], ◌∷◌, map, flat_map, sum_by, filter_map, Option, Some, None, option_map, refl}
use Rattle.std.proofs.Common.{arith, sym, ap, ap₂, ◌∙◌, subst, inl, inr, ⊎_elim}
use Rattle.std.proofs.lemmas.Int.{ints}
use Rattle.std.proofs.lemmas.List.Sums.{sum_by-cons}
use Rattle.std.proofs.lemmas.Map.Lookups.{exact_signed}
use Rattle.std.specs.Int.{int_min, int_max}
use Rattle.std.specs.List.{cons_option}
use Rattle.std.specs.Option.{option_map_or}
use Rattle.std.specs.Ordering.{int_cmp, int_eq}
use Rattle.std.specs.Cmp.{Equal-is}
use Rattle.trace_record.specs.Facts.{Facts, with_samples, statistics_in, number_of_values, sum_of_values}
use Rattle.trace_record.specs.Keys.{least, greatest}
use Rattle.key_counts.specs.Rising.{times_in}
use Rattle.trace_record.specs.Statistics.{least_of, greatest_of, int_sum, statistics_of, statistics_of_both, statistics_with}
use Rattle.trace_record.specs.declared.amplitudes.Amplitudes.{Amplitudes}
use Rattle.trace_record.specs.declared.statistics.Statistics.{Statistics}
use Rattle.key_counts.proofs.KeyLemmas.{int_eq-itself}
use Rattle.trace_record.proofs.StatisticsLemmas.{same_four, statistics_of_joined}
use Rattle.range_stats.specs.Totals.{totals_of}
use Rattle.range_stats.specs.OfTally.{IsLeastOf, IsGreatestOf, statistics_from}
use Rattle.range_stats.specs.Laws.{TotalsAreOfSamples, TotalsOfTally}
use Rattle.range_stats.proofs.EndKeyLemmas.{times_in-cons, ends, counted_ends}

-- ---- the samples of all

statistics_in-samples : (floats : Bool) (f : Facts) (vs : List ℤ) → statistics_in (with_samples floats f vs) ≡ statistics_of floats vs
statistics_in-samples floats f [] = refl
statistics_in-samples floats f (v ∷ vs) = refl

pub totals_are_of_samples : TotalsAreOfSamples
totals_are_of_samples floats [] = refl
totals_are_of_samples floats (p ∷ ps) =
    ap₂ statistics_of_both (statistics_in-samples floats p.0 p.1) (totals_are_of_samples floats ps)
    ∙ sym (statistics_of_joined floats p.1 (flat_map (λ q. q.1) ps))

-- ---- in a tally

-- the least of a list, where it has one
abbrev least_option : List ℤ → Option ℤ
least_option [] = None
least_option (v ∷ vs) = Some (least_of (v ∷ vs))

abbrev greatest_option : List ℤ → Option ℤ
greatest_option [] = None
greatest_option (v ∷ vs) = Some (greatest_of (v ∷ vs))

counted_first : (x : ℤ) (vs : List ℤ) (v : ℤ) → v ≡ x → 0 < times_in int_cmp (x ∷ vs) v
counted_first x vs v e = let c = times_in-cons x vs v ∙ ap (λ (b : Bool). (if b then 1 else 0) + times_in int_cmp vs v) (int_eq-itself v x e) in omega arith

counted_later : (x : ℤ) (vs : List ℤ) (v : ℤ) → 0 < times_in int_cmp vs v → 0 < times_in int_cmp (x ∷ vs) v
counted_later x vs v p = let c = times_in-cons x vs v in omega arith

-- what is counted in front or behind
counted_either : (x : ℤ) (vs : List ℤ) (v : ℤ) → 0 < times_in int_cmp (x ∷ vs) v → (x ≡ v) ⊎ (0 < times_in int_cmp vs v)
counted_either x vs v p = by (int_eq x v) refl
  where
    by : (b : Bool) → int_eq x v ≡ b → (x ≡ v) ⊎ (0 < times_in int_cmp vs v)
    by true e = inl (exact_signed x v ((Equal-is (int_cmp x v)).0 e))
    by false e = inr (let c = times_in-cons x vs v ∙ ap (λ (b : Bool). (if b then 1 else 0) + times_in int_cmp vs v) e in omega arith)

min_either : (a b : ℤ) → (int_min a b ≡ a) ⊎ (int_min a b ≡ b)
min_either a b = grind (arith, ints)

max_either : (a b : ℤ) → (int_max a b ≡ a) ⊎ (int_max a b ≡ b)
max_either a b = grind (arith, ints)

min_low : (a b : ℤ) → (int_min a b ≤ℤ a) × (int_min a b ≤ℤ b)
min_low a b = (grind (arith, ints), grind (arith, ints))

max_high : (a b : ℤ) → (a ≤ℤ int_max a b) × (b ≤ℤ int_max a b)
max_high a b = (grind (arith, ints), grind (arith, ints))

le_itself : (a b : ℤ) → a ≡ b → a ≤ℤ b
le_itself a b e = omega (arith, ints)

le_through : (a b c : ℤ) → a ≤ℤ b → b ≤ℤ c → a ≤ℤ c
le_through a b c p q = omega (arith, ints)

none_left : {G : Type 0} (q : ℤ) → 0 < times_in int_cmp [] q → G
none_left q c = absurd (omega arith)

least_is : (vs : List ℤ) → IsLeastOf (λ v. times_in int_cmp vs v) (least_option vs)
least_is [] = λ v. refl
least_is (v ∷ []) = (counted_first v [] v refl, λ q p. ⊎_elim (λ e. le_itself v q e) (λ c. none_left q c) (counted_either v [] q p))
least_is (v ∷ w ∷ ws) =
    let i = least_is (w ∷ ws) in
    let m = least_of (w ∷ ws) in (
      ⊎_elim (λ e. counted_first v (w ∷ ws) (int_min v m) e) (λ e. counted_later v (w ∷ ws) (int_min v m) (subst (λ q. 0 < times_in int_cmp (w ∷ ws) q) (sym e) i.0)) (min_either v m),
      λ q p. ⊎_elim (λ e. le_through (int_min v m) v q (min_low v m).0 (le_itself v q e)) (λ c. le_through (int_min v m) m q (min_low v m).1 (i.1 q c)) (counted_either v (w ∷ ws) q p),
    )

greatest_is : (vs : List ℤ) → IsGreatestOf (λ v. times_in int_cmp vs v) (greatest_option vs)
greatest_is [] = λ v. refl
greatest_is (v ∷ []) = (counted_first v [] v refl, λ q p. ⊎_elim (λ e. le_itself q v (sym e)) (λ c. none_left q c) (counted_either v [] q p))
greatest_is (v ∷ w ∷ ws) =
    let i = greatest_is (w ∷ ws) in
    let m = greatest_of (w ∷ ws) in (
      ⊎_elim (λ e. counted_first v (w ∷ ws) (int_max v m) e) (λ e. counted_later v (w ∷ ws) (int_max v m) (subst (λ q. 0 < times_in int_cmp (w ∷ ws) q) (sym e) i.0)) (max_either v m),
      λ q p. ⊎_elim (λ e. le_through q v (int_max v m) (le_itself q v (sym e)) (max_high v m).0) (λ c. le_through q m (int_max v m) (i.1 q c) (max_high v m).1) (counted_either v (w ∷ ws) q p),
    )

one_bound : (a b : ℤ) → a ≤ℤ b → b ≤ℤ a → a ≡ b
one_bound a b p q = omega (arith, ints)

none_occurs : {G : Type 0} (m n : ℕ) → m ≡ n → m ≡ 0 → 0 < n → G
none_occurs m n e z p = absurd (omega arith)

more : (m n : ℕ) → m ≡ n → 0 < m → 0 < n
more m n e p = omega arith

pub one_least : (c d : ℤ → ℕ) → ((v : ℤ) → c v ≡ d v) → (l m : Option ℤ) → IsLeastOf c l → IsLeastOf d m → l ≡ m
one_least c d same None None a b = refl
one_least c d same None (Some m) a b = none_occurs (c m) (d m) (same m) (a m) b.0
one_least c d same (Some l) None a b = none_occurs (d l) (c l) (sym (same l)) (b l) a.0
one_least c d same (Some l) (Some m) a b = ap Some (one_bound l m (a.1 m (more (d m) (c m) (sym (same m)) b.0)) (b.1 l (more (c l) (d l) (same l) a.0)))

pub one_greatest : (c d : ℤ → ℕ) → ((v : ℤ) → c v ≡ d v) → (l m : Option ℤ) → IsGreatestOf c l → IsGreatestOf d m → l ≡ m
one_greatest c d same None None a b = refl
one_greatest c d same None (Some m) a b = none_occurs (c m) (d m) (same m) (a m) b.0
one_greatest c d same (Some l) None a b = none_occurs (d l) (c l) (sym (same l)) (b l) a.0
one_greatest c d same (Some l) (Some m) a b = ap Some (one_bound l m (b.1 l (more (c l) (d l) (same l) a.0)) (a.1 m (more (d m) (c m) (sym (same m)) b.0)))

-- ---- the totals from the ends, the number and the sum

abbrev sum_over : List Facts → ℤ
sum_over fs = int_sum (map sum_of_values fs)

abbrev number_over : List Facts → ℕ
number_over fs = sum_by number_of_values fs

-- with one trace more in front
joined : (x : Statistics) (xs : List Amplitudes) (s : ℤ) (n : ℕ) → (xs ≡ [] → (s ≡ pos 0) × (n ≡ 0))
    → statistics_from (least_option (x.least ∷ map (λ a. a.least) xs)) (greatest_option (x.greatest ∷ map (λ a. a.greatest) xs)) (x.sum +ℤ s) (x.number + n)
    ≡ statistics_of_both (Some x) (statistics_from (least_option (map (λ a. a.least) xs)) (greatest_option (map (λ a. a.greatest) xs)) s n)
joined x [] s n z =
    let none = z refl in
    let sum : x.sum +ℤ s ≡ x.sum = let e = none.0 in omega (arith, ints) in
    let number : x.number + n ≡ x.number = let e = none.1 in omega arith in
    same_four _ _ _ _ _ _ _ _ refl refl sum number
joined x (b ∷ bs) s n z = refl

-- without values there is nothing to sum
nothing_over : (fs : List Facts) → filter_map (λ f. f.amplitudes) fs ≡ [] → (sum_over fs ≡ pos 0) × (number_over fs ≡ 0)
nothing_over [] e = (refl, refl)
nothing_over (f ∷ fs) e = let r = by f.amplitudes e (nothing_over fs) in (r.0, sum_by-cons number_of_values f fs ∙ r.1)
  where
    by : (o : Option Amplitudes) → cons_option o (filter_map (λ g. g.amplitudes) fs) ≡ [] → (filter_map (λ g. g.amplitudes) fs ≡ [] → (sum_over fs ≡ pos 0) × (number_over fs ≡ 0))
        → (option_map_or (λ a. a.sum) o (pos 0) +ℤ sum_over fs ≡ pos 0) × (option_map_or (λ a. f.number) o 0 + number_over fs ≡ 0)
    by None e i = let r = i e in let s = r.0 in let n = r.1 in (omega (arith, ints), omega arith)
    by (Some a) e i = absurd cc

from_ends : (fs : List Facts) → statistics_from (least_option (ends (λ a. a.least) fs)) (greatest_option (ends (λ a. a.greatest) fs)) (sum_over fs) (number_over fs) ≡ totals_of fs
from_ends [] = refl
from_ends (f ∷ fs) =
    ap (statistics_from (least_option (ends (λ a. a.least) (f ∷ fs))) (greatest_option (ends (λ a. a.greatest) (f ∷ fs))) (sum_over (f ∷ fs))) (sum_by-cons number_of_values f fs)
    ∙ by f.amplitudes (from_ends fs)
  where
    by : (o : Option Amplitudes) → statistics_from (least_option (ends (λ a. a.least) fs)) (greatest_option (ends (λ a. a.greatest) fs)) (sum_over fs) (number_over fs) ≡ totals_of fs
        → statistics_from (least_option (map (λ a. a.least) (cons_option o (filter_map (λ g. g.amplitudes) fs)))) (greatest_option (map (λ a. a.greatest) (cons_option o (filter_map (λ g. g.amplitudes) fs))))
        (option_map_or (λ a. a.sum) o (pos 0) +ℤ sum_over fs) (option_map_or (λ a. f.number) o 0 + number_over fs)
        ≡ statistics_of_both (option_map (λ a. statistics_with a f.number) o) (totals_of fs)
    by None i =
        let sum : pos 0 +ℤ sum_over fs ≡ sum_over fs = omega (arith, ints) in
        let number : 0 + number_over fs ≡ number_over fs = omega arith in
        ap₂ (λ s n. statistics_from (least_option (ends (λ a. a.least) fs)) (greatest_option (ends (λ a. a.greatest) fs)) s n) sum number ∙ i
    by (Some a) i =
        joined (statistics_with a f.number) (filter_map (λ g. g.amplitudes) fs) (sum_over fs) (number_over fs) (nothing_over fs)
        ∙ ap (statistics_of_both (Some (statistics_with a f.number))) i

pub totals_of_tally : TotalsOfTally
totals_of_tally fs t l g p a b =
    let low : l ≡ least_option (ends (λ a. a.least) fs) = one_least _ _ (λ v. p.count (least v) ∙ counted_ends (λ a. a.least) fs v) l _ a (least_is (ends (λ a. a.least) fs)) in
    let high : g ≡ greatest_option (ends (λ a. a.greatest) fs) = one_greatest _ _ (λ v. p.count (greatest v) ∙ counted_ends (λ a. a.greatest) fs v) g _ b (greatest_is (ends (λ a. a.greatest) fs)) in
    ap₂ (λ x y. statistics_from x y t.sum t.number) low high ∙ ap₂ (λ s n. statistics_from (least_option (ends (λ a. a.least) fs)) (greatest_option (ends (λ a. a.greatest) fs)) s n) p.sum p.number ∙ from_ends fs
