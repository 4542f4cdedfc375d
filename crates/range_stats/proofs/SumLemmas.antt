-- The number of the samples of traces that have values and their sum, trace by trace.
use Rattle.std.specs.Prelude.{◌≡◌, ℕ, ℤ, pos, neg_ℤ, ◌+◌, ◌*◌, ◌^◌, ◌≤◌, ◌+ℤ◌, ◌≤ℤ◌, List, [], ◌∷◌, map, sum_by, refl}
use Rattle.std.proofs.Common.{arith, SFits, to_z, of_z}
use Rattle.std.specs.Int.{w128}
use Rattle.std.proofs.lemmas.Int.{ints, to_z-of_z}
use Rattle.std.proofs.lemmas.List.Sums.{sum_by-cons}
use Rattle.trace_record.specs.Facts.{facts_of, number_of_values, sum_of_values}
use Rattle.trace_record.specs.Statistics.{int_sum}
use Rattle.trace_record.specs.declared.record.Record.{Record}
use Rattle.trace_record.proofs.TallyLemmas.{own-low, own-high}

-- the number and the sum of the samples of traces
abbrev pub number_of : List Record → ℕ
number_of rs = sum_by number_of_values (map facts_of rs)

abbrev pub sum_of : List Record → ℤ
sum_of rs = int_sum (map sum_of_values (map facts_of rs))

-- so many samples with this sum are those of all traces but the rest
pub record AreOfFront (n : ℕ) (s : ℤ) (rest all : List Record) : Type 0 where
  pub number : n + number_of rest ≡ number_of all
  pub sum : s +ℤ sum_of rest ≡ sum_of all
  pub low : neg_ℤ (pos (2 ^ 63 * n)) ≤ℤ s
  pub high : s ≤ℤ pos (2 ^ 64 * n)

pub front_of_none : (all : List Record) → AreOfFront 0 (pos 0) all all
front_of_none all = record { number = omega arith; sum = omega (arith, ints); low = omega (arith, ints); high = omega (arith, ints) }

-- one trace more
pub one_trace_more : (n : ℕ) (s : ℤ) (r : Record) (rest all : List Record) → AreOfFront n s (r ∷ rest) all → AreOfFront (n + number_of_values (facts_of r)) (s +ℤ sum_of_values (facts_of r)) rest all
one_trace_more n s r rest all h =
    let step = sum_by-cons number_of_values (facts_of r) (map facts_of rest) in
    let number = h.number in
    let sum = h.sum in
    let low = h.low in
    let high = h.high in
    let here_low = own-low r in
    let here_high = own-high r in
    record { number = omega arith; sum = omega (arith, ints); low = omega (arith, ints); high = omega (arith, ints) }

-- the sum of at most 2^41 samples fits 128 bits
pub sum_fits : (n : ℕ) (s : ℤ) (rest all : List Record) → AreOfFront n s rest all → number_of all ≤ 2 ^ 41 → SFits w128 s
sum_fits n s rest all h few = let number = h.number in let low = h.low in let high = h.high in omega (arith, ints)

-- a sum of numbers that fit is the sum of what their bits are
pub sum_of_bits : (s r : ℤ) → SFits w128 s → SFits w128 r → SFits w128 (s +ℤ r) → to_z w128 (of_z w128 (to_z w128 (of_z w128 s) +ℤ to_z w128 (of_z w128 r))) ≡ s +ℤ r
sum_of_bits s r fs fr f = rw (to_z-of_z w128 s fs, to_z-of_z w128 r fr, to_z-of_z w128 (s +ℤ r) f) refl

-- with no trace left they are those of all
pub none_left : (n : ℕ) (s : ℤ) (all : List Record) → AreOfFront n s [] all → (n ≡ number_of all) × (s ≡ sum_of all)
none_left n s all h = let number = h.number in let sum = h.sum in (omega arith, omega (arith, ints))
