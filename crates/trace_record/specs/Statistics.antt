-- The least, the greatest, the sum and the number of a list of samples. Where these are floats each number is a rank, and the place of
-- the sum has how many are no number.
use Rattle.std.specs.Prelude.{ℕ, ℤ, Bool, true, false, if◌then◌else◌, pos, negsuc, neg_ℤ, ◌+◌, ◌*◌, ◌^◌, ◌+ℤ◌, ◌≤ℤ◌, List, [], ◌∷◌, length, Option, Some, None, option_map}
use Rattle.std.specs.Int.{int_min, int_max}
use Rattle.std.specs.Ordering.{int_eq}
use Rattle.float_codes.specs.Ranks.{no_number}
use Rattle.trace_record.specs.Parts.{FitsSample}
use Rattle.trace_record.specs.declared.amplitudes.Amplitudes.{Amplitudes}
use Rattle.trace_record.specs.declared.statistics.Statistics.{Statistics}

-- the number that stands for a greatest of no numbers: below all ranks of numbers
abbrev pub below_numbers : ℤ
below_numbers = negsuc 0x7FF8000000000000

-- the least of the numbers, and 0 of none
abbrev pub least_of : List ℤ → ℤ
least_of [] = pos 0
least_of (v ∷ []) = v
least_of (v ∷ w ∷ ws) = int_min v (least_of (w ∷ ws))

-- the greatest of the numbers, and 0 of none
abbrev pub greatest_of : List ℤ → ℤ
greatest_of [] = pos 0
greatest_of (v ∷ []) = v
greatest_of (v ∷ w ∷ ws) = int_max v (greatest_of (w ∷ ws))

-- the sum of the numbers
abbrev pub int_sum : List ℤ → ℤ
int_sum [] = pos 0
int_sum (v ∷ vs) = v +ℤ int_sum vs

-- what a sample is for the greatest: itself, but what is no number, whose rank stands above all numbers, is then below them
abbrev pub for_greatest : Bool → ℤ → ℤ
for_greatest false v = v
for_greatest true v = if int_eq v no_number then below_numbers else v

-- what a sample adds to the sum: itself, and among floats 1 where it is no number
abbrev pub for_sum : Bool → ℤ → ℤ
for_sum false v = v
for_sum true v = if int_eq v no_number then pos 1 else pos 0

-- the greatest of samples, and 0 of none
abbrev pub greatest_sample : Bool → List ℤ → ℤ
greatest_sample floats [] = pos 0
greatest_sample floats (v ∷ []) = for_greatest floats v
greatest_sample floats (v ∷ w ∷ ws) = int_max (for_greatest floats v) (greatest_sample floats (w ∷ ws))

-- the sum of samples
abbrev pub sample_sum : Bool → List ℤ → ℤ
sample_sum floats [] = pos 0
sample_sum floats (v ∷ vs) = for_sum floats v +ℤ sample_sum floats vs

-- all four, and none without samples; whether they are floats comes first
abbrev pub statistics_of : Bool → List ℤ → Option Statistics
statistics_of floats [] = None
statistics_of floats (v ∷ vs) =
    Some (record { least = least_of (v ∷ vs); greatest = greatest_sample floats (v ∷ vs); sum = sample_sum floats (v ∷ vs); number = length (v ∷ vs) })

-- statistics but for the number
abbrev pub amplitudes_in : Statistics → Amplitudes
amplitudes_in s = record { least = s.least; greatest = s.greatest; sum = s.sum }

-- and with it
abbrev pub statistics_with : Amplitudes → ℕ → Statistics
statistics_with a n = record { least = a.least; greatest = a.greatest; sum = a.sum; number = n }

-- the least, the greatest and the sum, and none without samples
abbrev pub amplitudes_of : Bool → List ℤ → Option Amplitudes
amplitudes_of floats vs = option_map amplitudes_in (statistics_of floats vs)

-- the statistics of two lists together
abbrev pub statistics_of_both : Option Statistics → Option Statistics → Option Statistics
statistics_of_both None r = r
statistics_of_both (Some s) None = Some s
statistics_of_both (Some s) (Some r) =
    Some (record {
      least = int_min s.least r.least;
      greatest = int_max s.greatest r.greatest;
      sum = s.sum +ℤ r.sum;
      number = s.number + r.number;
    })

-- the statistics of one sample
abbrev pub one_sample : Bool → ℤ → Statistics
one_sample floats v = record { least = v; greatest = for_greatest floats v; sum = for_sum floats v; number = 1 }

-- the statistics with one sample more
abbrev pub with_sample : Bool → Statistics → ℤ → Statistics
with_sample floats s v = record {
  least = int_min s.least v;
  greatest = int_max s.greatest (for_greatest floats v);
  sum = s.sum +ℤ for_sum floats v;
  number = s.number + 1;
}

-- the least, the greatest and the sum are what so many samples of at most 64 bits can have
pub record HasRange (s : Statistics) : Type 0 where
  pub least : FitsSample s.least
  pub greatest : FitsSample s.greatest
  pub low : neg_ℤ (pos (2 ^ 63 * s.number)) ≤ℤ s.sum
  pub high : s.sum ≤ℤ pos (2 ^ 64 * s.number)
