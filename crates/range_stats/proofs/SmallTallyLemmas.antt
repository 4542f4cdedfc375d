-- The tally of one trace or two is small.
use Rattle.std.specs.Prelude.{◌≡◌, ◌≤◌, ℕ, [], ◌∷◌, Option, Some, None}
use Rattle.std.specs.Option.{option_map_or}
use Rattle.std.proofs.Common.{arith}
use Rattle.std.proofs.lemmas.Int.{ints}
use Rattle.trace_record.specs.Facts.{Facts, facts_of}
use Rattle.range_stats.specs.RangeKeys.{keys_of_ranges}
use Rattle.range_stats.specs.TotalKeys.{keys_of_totals}
use Rattle.trace_record.specs.Tally.{tally_of, IsSmall}
use Rattle.trace_record.specs.declared.amplitudes.Amplitudes.{Amplitudes}
use Rattle.trace_record.specs.declared.record.Record.{Record}
use Rattle.trace_record.proofs.TallyLemmas.{IsSmall-tally_of, sum-low, sum-high}

pub ranges_one : (f : Facts) → IsSmall (tally_of keys_of_ranges (f ∷ []))
ranges_one f = IsSmall-tally_of keys_of_ranges (f ∷ []) (omega arith) (omega arith) (omega (arith, ints)) (omega (arith, ints))

pub ranges_two : (f g : Facts) → IsSmall (tally_of keys_of_ranges (f ∷ g ∷ []))
ranges_two f g = IsSmall-tally_of keys_of_ranges (f ∷ g ∷ []) (omega arith) (omega arith) (omega (arith, ints)) (omega (arith, ints))

valued-le : (o : Option Amplitudes) (n : ℕ) → option_map_or (λ a. n) o 0 ≤ n
valued-le None n = omega arith
valued-le (Some a) n = omega arith

pub totals_one : (r : Record) → r.number ≡ 2 → IsSmall (tally_of keys_of_totals (facts_of r ∷ []))
totals_one r e = let few = valued-le r.amplitudes r.number in IsSmall-tally_of keys_of_totals (facts_of r ∷ []) (omega arith) (omega arith) (sum-low (r ∷ [])) (sum-high (r ∷ []))

pub totals_two : (r s : Record) → r.number ≡ 2 → s.number ≡ 2 → IsSmall (tally_of keys_of_totals (facts_of r ∷ facts_of s ∷ []))
totals_two r s d e =
    let few = valued-le r.amplitudes r.number in
    let few' = valued-le s.amplitudes s.number in
    IsSmall-tally_of keys_of_totals (facts_of r ∷ facts_of s ∷ []) (omega arith) (omega arith) (sum-low (r ∷ s ∷ [])) (sum-high (r ∷ s ∷ []))
