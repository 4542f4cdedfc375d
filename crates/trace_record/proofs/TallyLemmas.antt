-- Laws of tallies: one record more, one less, and the order of records.
use Rattle.std.specs.Prelude.{◌≡◌, ℕ, ℤ, pos, negsuc, suc, ◌+◌, ◌-◌, ◌+ℤ◌, ◌-ℤ◌, ◌*◌, ◌^◌, ◌≤◌, ◌≤ℤ◌, neg_ℤ, cond, List, [], ◌∷◌, ◌++◌, length, map, sum_by, IsPermutation, Option, Some, None, refl}
use Rattle.std.specs.Option.{option_map_or}
use Rattle.std.proofs.Common.{arith, sym, ap, subst, ◌∙◌}
use Rattle.std.proofs.lemmas.List.{map-append}
use Rattle.std.proofs.lemmas.Int.{ints}
use Rattle.std.proofs.lemmas.List.Sums.{sum_by-cons, count_by-le-length}
use Rattle.std.proofs.lemmas.List.Sorted.{sum_by-IsPermutation, length_permutation, IsPermutation-to_front, IsPermutation-middle, IsPermutation-map}
use Rattle.trace_record.specs.Facts.{Facts, facts_of, number_of_values, sum_of_values}
use Rattle.trace_record.specs.Packable.{HaveRange, each_fits}
use Rattle.trace_record.specs.declared.amplitudes.Amplitudes.{Amplitudes}
use Rattle.trace_record.specs.declared.record.Record.{Record}
use Rattle.trace_record.specs.Statistics.{int_sum}
use Rattle.trace_record.specs.Keys.{Counted}
use Rattle.trace_record.specs.Laws.{TallyOfOneMore, TallyOfOneLess, TallyHoldsEach, TallyOfAnExchange, MinusBesideUndoesPlus}
use Rattle.trace_record.specs.Tally.{Tally, tally_of, plus, minus, Same, Holds, IsSmall}

-- the part of a number above zero, and the part below
above : ℤ → ℕ
above (pos n) = n
above (negsuc n) = 0

below : ℤ → ℕ
below (pos n) = 0
below (negsuc n) = suc n

split : (v : ℤ) → v ≡ pos (above v) -ℤ pos (below v)
unfolding above below
split (pos n) = omega (arith, ints)
split (negsuc n) = omega (arith, ints)

-- a sum is what is above zero without what is below
int_sum-split : (vs : List ℤ) → int_sum vs ≡ pos (sum_by above vs) -ℤ pos (sum_by below vs)
int_sum-split [] = omega (arith, ints)
int_sum-split (v ∷ vs) =
    let one = split v in
    let rest = int_sum-split vs in
    let up = sum_by-cons above v vs in
    let down = sum_by-cons below v vs in
    omega (arith, ints)

-- a sum does not depend on the order
pub int_sum-IsPermutation : (vs ws : List ℤ) → IsPermutation vs ws → int_sum ws ≡ int_sum vs
int_sum-IsPermutation vs ws p =
    let up = sum_by-IsPermutation above vs ws p in
    let down = sum_by-IsPermutation below vs ws p in
    let left = int_sum-split vs in
    let right = int_sum-split ws in
    omega (arith, ints)

-- the tally does not depend on the order of the records
pub tally-IsPermutation : (c : Counted) (fs gs : List Facts) → IsPermutation fs gs → Same (tally_of c gs) (tally_of c fs)
tally-IsPermutation c fs gs p = record {
  records = length_permutation fs gs p;
  number = sum_by-IsPermutation c.number fs gs p;
  sum = int_sum-IsPermutation (map c.sum fs) (map c.sum gs) (IsPermutation-map c.sum fs gs p);
  count = λ k. sum_by-IsPermutation (λ f. cond (c.has f k) 1 0) fs gs p;
}

-- one record more, in front
pub tally-cons : (c : Counted) (f : Facts) (fs : List Facts) → Same (tally_of c (f ∷ fs)) (plus c (tally_of c fs) f)
tally-cons c f fs = record {
  records = omega arith;
  number = let e = sum_by-cons c.number f fs in omega arith;
  sum = omega (arith, ints);
  count = λ k. let e = sum_by-cons (λ g. cond (c.has g k) 1 0) f fs in omega arith;
}

pub Same-trans : (t u v : Tally) → Same t u → Same u v → Same t v
Same-trans t u v p q = record {
  records = p.records ∙ q.records;
  number = p.number ∙ q.number;
  sum = p.sum ∙ q.sum;
  count = λ k. p.count k ∙ q.count k;
}

pub Same-sym : (t u : Tally) → Same t u → Same u t
Same-sym t u p = record { records = sym p.records; number = sym p.number; sum = sym p.sum; count = λ k. sym (p.count k) }

-- one record more, at the end
pub tally-push : (c : Counted) (fs : List Facts) (f : Facts) → Same (tally_of c (fs ++ f ∷ [])) (plus c (tally_of c fs) f)
tally-push c fs f =
    Same-trans _ _ _ (Same-sym _ _ (tally-IsPermutation c (fs ++ f ∷ []) (f ∷ fs) (IsPermutation-to_front fs f))) (tally-cons c f fs)

-- tallies that say the same say the same with one trace more, and with one less
pub plus-Same : (c : Counted) (t u : Tally) (f : Facts) → Same t u → Same (plus c t f) (plus c u f)
plus-Same c t u f p = record {
  records = ap (λ n. n + 1) p.records;
  number = ap (λ n. n + c.number f) p.number;
  sum = ap (λ v. v +ℤ c.sum f) p.sum;
  count = λ k. let e = p.count k in omega arith;
}

pub minus-Same : (c : Counted) (t u : Tally) (f : Facts) → Same t u → Same (minus c t f) (minus c u f)
minus-Same c t u f p = record {
  records = ap (λ n. n - 1) p.records;
  number = ap (λ n. n - c.number f) p.number;
  sum = ap (λ v. v -ℤ c.sum f) p.sum;
  count = λ k. let e = p.count k in omega arith;
}

-- one record more behind those that are counted
pub one_behind : (c : Counted) (ys : List Record) (x : Record) (t : Tally) → Same t (tally_of c (map facts_of ys)) → Same (tally_of c (map facts_of (ys ++ x ∷ []))) (plus c t (facts_of x))
one_behind c ys x t s =
    subst (λ (fs : List Facts). Same (tally_of c fs) (plus c t (facts_of x))) (sym (map-append facts_of ys (x ∷ [])))
    (Same-trans _ _ _ (tally-push c (map facts_of ys) (facts_of x)) (plus-Same c _ _ (facts_of x) (Same-sym _ _ s)))

-- taking a record out undoes putting it in
pub minus-plus : (c : Counted) (t : Tally) (f : Facts) → Same (minus c (plus c t f) f) t
minus-plus c t f = record { records = omega arith; number = omega arith; sum = omega (arith, ints); count = λ k. omega arith }

-- and putting it in undoes taking it out, where the tally has it
pub plus-minus : (c : Counted) (t : Tally) (f : Facts) → Holds c t f → Same (plus c (minus c t f) f) t
plus-minus c t f h = record {
  records = let p = h.records in omega arith;
  number = let p = h.number in omega arith;
  sum = omega (arith, ints);
  count = λ k. let p = h.keys k in omega arith;
}

-- two traces counted in either order
pub plus_in_any_order : (c : Counted) (t : Tally) (f g : Facts) → Same (plus c (plus c t f) g) (plus c (plus c t g) f)
plus_in_any_order c t f g = record { records = refl; number = omega arith; sum = omega (arith, ints); count = λ k. omega arith }

-- the tally holds a trace that it just counted
pub Holds-plus : (c : Counted) (t u : Tally) (f : Facts) → Same u (plus c t f) → Holds c u f
Holds-plus c t u f p = record {
  records = let a = p.records in omega arith;
  number = let a = p.number in omega arith;
  keys = λ k. let a = p.count k in omega arith;
}

-- ---- one trace more or less, wherever it stands

pub tally_of_one_more : TallyOfOneMore
tally_of_one_more c before after f =
    Same-trans _ _ _ (Same-sym _ _ (tally-IsPermutation c (before ++ f ∷ after) (f ∷ before ++ after) (IsPermutation-middle before f after))) (tally-cons c f (before ++ after))

pub tally_of_one_less : TallyOfOneLess
tally_of_one_less c before after f =
    Same-sym _ _ (Same-trans _ _ _ (minus-Same c _ _ f (tally_of_one_more c before after f)) (minus-plus c (tally_of c (before ++ after)) f))

pub tally_holds_each : TallyHoldsEach
tally_holds_each c before after f = Holds-plus c (tally_of c (before ++ after)) (tally_of c (before ++ f ∷ after)) f (tally_of_one_more c before after f)

-- ---- one trace in the place of another

pub minus_beside-plus : MinusBesideUndoesPlus
minus_beside-plus c t f g = record { records = omega arith; number = omega arith; sum = omega (arith, ints); count = λ k. omega arith }

pub tally_of_an_exchange : TallyOfAnExchange
tally_of_an_exchange c before after f g =
    let old = tally_of_one_more c before after f in
    let new = tally_of_one_more c before after g in
    record {
      records = let a = old.records in let b = new.records in omega arith;
      number = let a = old.number in let b = new.number in omega arith;
      sum = let a = old.sum in let b = new.sum in omega (arith, ints);
      count = λ k. let a = old.count k in let b = new.count k in omega arith;
    }

-- ---- small tallies

-- a list of few traces with few samples has a small tally
pub IsSmall-tally_of : (c : Counted) (fs : List Facts) → length fs ≤ 2 ^ 33 → sum_by c.number fs ≤ 2 ^ 41
    → neg_ℤ (pos (2 ^ 63 * sum_by c.number fs)) ≤ℤ int_sum (map c.sum fs) → int_sum (map c.sum fs) ≤ℤ pos (2 ^ 64 * sum_by c.number fs) → IsSmall (tally_of c fs)
IsSmall-tally_of c fs few samples low high = record {
  records = few;
  number = samples;
  low = omega (arith, ints);
  high = omega (arith, ints);
  count = λ k. let n = count_by-le-length (λ f. c.has f k) fs in omega arith;
}

low_in : (o : Option Amplitudes) (n : ℕ) → HaveRange o n → neg_ℤ (pos (2 ^ 63 * option_map_or (λ a. n) o 0)) ≤ℤ option_map_or (λ a. a.sum) o (pos 0)
unfolding HaveRange
low_in None n h = omega (arith, ints)
low_in (Some a) n h = h.low

high_in : (o : Option Amplitudes) (n : ℕ) → HaveRange o n → option_map_or (λ a. a.sum) o (pos 0) ≤ℤ pos (2 ^ 64 * option_map_or (λ a. n) o 0)
unfolding HaveRange
high_in None n h = omega (arith, ints)
high_in (Some a) n h = h.high

-- the sum of the values of a record's samples lies between the least and the greatest that so many can have
pub own-low : (r : Record) → neg_ℤ (pos (2 ^ 63 * number_of_values (facts_of r))) ≤ℤ sum_of_values (facts_of r)
own-low r = low_in r.amplitudes r.number (each_fits _ _ _ _ r.small).0

pub own-high : (r : Record) → sum_of_values (facts_of r) ≤ℤ pos (2 ^ 64 * number_of_values (facts_of r))
own-high r = high_in r.amplitudes r.number (each_fits _ _ _ _ r.small).0

-- and so does that of records
pub sum-low : (rs : List Record) → neg_ℤ (pos (2 ^ 63 * sum_by number_of_values (map facts_of rs))) ≤ℤ int_sum (map sum_of_values (map facts_of rs))
sum-low [] = omega (arith, ints)
sum-low (r ∷ rs) = let here = own-low r in let rest = sum-low rs in let n = sum_by-cons number_of_values (facts_of r) (map facts_of rs) in omega (arith, ints)

pub sum-high : (rs : List Record) → int_sum (map sum_of_values (map facts_of rs)) ≤ℤ pos (2 ^ 64 * sum_by number_of_values (map facts_of rs))
sum-high [] = omega (arith, ints)
sum-high (r ∷ rs) = let here = own-high r in let rest = sum-high rs in let n = sum_by-cons number_of_values (facts_of r) (map facts_of rs) in omega (arith, ints)

-- a tally that says the same as a small one is small
pub IsSmall-Same : (t u : Tally) → Same t u → IsSmall t → IsSmall u
IsSmall-Same t u p s = record {
  records = let a = p.records in let b = s.records in omega arith;
  number = let a = p.number in let b = s.number in omega arith;
  low = let a = p.sum in let b = s.low in omega (arith, ints);
  high = let a = p.sum in let b = s.high in omega (arith, ints);
  count = λ k. let a = p.count k in let b = s.count k in omega arith;
}
