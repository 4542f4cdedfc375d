-- What a running value that counted records all at once has of each part of their tally.
use Rattle.std.specs.Prelude.{◌≡◌, pos, ◌≤◌, ◌^◌, Bool, List, [], ◌∷◌, length, map, sum_by, refl}
use Rattle.std.proofs.Common.{arith}
use Rattle.std.proofs.lemmas.Int.{ints}
use Rattle.std.proofs.lemmas.List.Sums.{sum_by-cons}
use Rattle.trace_record.specs.Facts.{Facts, facts_of}
use Rattle.trace_record.specs.Keys.{Key}
use Rattle.trace_record.specs.Statistics.{int_sum}
use Rattle.trace_record.specs.Tally.{tally_of, IsSmall}
use Rattle.trace_record.specs.declared.record.Record.{Record}
use Rattle.trace_record.proofs.TallyLemmas.{IsSmall-tally_of}

-- what is counted of no trace
pub sum_by-zero : {A : Type 0} (xs : List A) → sum_by (λ x. 0) xs ≡ 0
sum_by-zero [] = refl
sum_by-zero (x ∷ xs) = let step = sum_by-cons (λ y. 0) x xs in let rest = sum_by-zero xs in omega arith

pub int_sum-zero : {A : Type 0} (xs : List A) → int_sum (map (λ x. pos 0) xs) ≡ pos 0
int_sum-zero [] = refl
int_sum-zero (x ∷ xs) = let e = int_sum-zero xs in omega (arith, ints)

-- the keys of records are those of their facts
pub map-facts : {K : Type 0} (key : Record → K) (of_facts : Facts → K) → ((r : Record) → key r ≡ of_facts (facts_of r)) → (rs : List Record) → map key rs ≡ map of_facts (map facts_of rs)
map-facts key of_facts same [] = refl
map-facts key of_facts same (r ∷ rs) = λ i. same r i ∷ map-facts key of_facts same rs i

-- the tally of few traces is small, where no sample is counted
pub IsSmall-uncounted : (has : Facts → Key → Bool) (fs : List Facts) → length fs ≤ 2 ^ 33 → IsSmall (tally_of (record { has = has; number = λ f. 0; sum = λ f. pos 0 }) fs)
IsSmall-uncounted has fs few =
    let z = sum_by-zero fs in
    let s = int_sum-zero fs in
    IsSmall-tally_of (record { has = has; number = λ f. 0; sum = λ f. pos 0 }) fs few (omega arith) (omega (arith, ints)) (omega (arith, ints))
