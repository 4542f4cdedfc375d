-- Laws of ranges and totals: there is one, and it is the one that is read from the tally.
use Rattle.std.specs.Prelude.{◌≡◌, ℤ, Bool, List, map, flat_map, Option}
use Rattle.trace_record.specs.Facts.{Facts, with_samples}
use Rattle.range_stats.specs.RangeKeys.{keys_of_ranges}
use Rattle.range_stats.specs.TotalKeys.{keys_of_totals}
use Rattle.trace_record.specs.Tally.{Tally, tally_of, Same}
use Rattle.trace_record.specs.Statistics.{statistics_of}
use Rattle.key_counts.specs.declared.ratio.Ratio.{Ratio}
use Rattle.range_stats.specs.declared.quantity.Quantity.{Quantity}
use Rattle.range_stats.specs.Ranges.{IsRange, range_of}
use Rattle.range_stats.specs.Totals.{totals_of}
use Rattle.range_stats.specs.OfTally.{IsRangeIn, IsLeastIn, IsGreatestIn, statistics_from}

-- the range that is computed is a range
abbrev pub RangeIsRange : Type 0
RangeIsRange = (w : Quantity) (fs : List Facts) → IsRange w fs (range_of w fs)

-- there is at most one range
abbrev pub AtMostOneRange : Type 0
AtMostOneRange = (w : Quantity) (fs : List Facts) (r s : Option (Ratio × Ratio)) → IsRange w fs r → IsRange w fs s → r ≡ s

-- tallies that say the same have at most one range
abbrev pub AtMostOneRangeIn : Type 0
AtMostOneRangeIn = (w : Quantity) (t u : Tally) (r s : Option (Ratio × Ratio)) → Same t u → IsRangeIn w t r → IsRangeIn w u s → r ≡ s

-- tallies that say the same have at most one least sample
abbrev pub AtMostOneLeastIn : Type 0
AtMostOneLeastIn = (t u : Tally) (a b : Option ℤ) → Same t u → IsLeastIn t a → IsLeastIn u b → a ≡ b

-- tallies that say the same have at most one greatest sample
abbrev pub AtMostOneGreatestIn : Type 0
AtMostOneGreatestIn = (t u : Tally) (a b : Option ℤ) → Same t u → IsGreatestIn t a → IsGreatestIn u b → a ≡ b

-- the range of a list of traces is the one in its tally
abbrev pub RangeOfTally : Type 0
RangeOfTally = (w : Quantity) (fs : List Facts) (t : Tally) (r : Option (Ratio × Ratio)) → Same t (tally_of keys_of_ranges fs) → IsRangeIn w t r → r ≡ range_of w fs

-- traces with these samples; whether they are floats comes first
abbrev pub with_each : Bool → List (Facts × List ℤ) → List Facts
with_each floats ps = map (λ p. with_samples floats p.0 p.1) ps

-- the totals of traces are the statistics of their samples one after another
abbrev pub TotalsAreOfSamples : Type 0
TotalsAreOfSamples = (floats : Bool) (ps : List (Facts × List ℤ)) → totals_of (with_each floats ps) ≡ statistics_of floats (flat_map (λ p. p.1) ps)

-- the totals of a list of traces are those in its tally
abbrev pub TotalsOfTally : Type 0
TotalsOfTally = (fs : List Facts) (t : Tally) (l g : Option ℤ) → Same t (tally_of keys_of_totals fs) → IsLeastIn t l → IsGreatestIn t g → statistics_from l g t.sum t.number ≡ totals_of fs
