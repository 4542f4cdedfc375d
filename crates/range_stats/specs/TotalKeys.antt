-- What the totals count of a trace.
use Rattle.std.specs.Prelude.{Bool, false}
use Rattle.std.specs.Option.{option_map_or}
use Rattle.std.specs.Ordering.{int_eq}
use Rattle.trace_record.specs.Facts.{Facts, number_of_values, sum_of_values}
use Rattle.trace_record.specs.Keys.{Key, Counted, least, greatest}

-- the totals count the least and the greatest sample of a trace that has samples with values
abbrev pub totals_has : Facts → Key → Bool
totals_has f (least v) = option_map_or (λ a. int_eq a.least v) f.amplitudes false
totals_has f (greatest v) = option_map_or (λ a. int_eq a.greatest v) f.amplitudes false
totals_has f _ = false

-- what the totals count of a trace: these keys, and the samples that have values with their sum, which the totals alone count
abbrev pub keys_of_totals : Counted
keys_of_totals = record { has = totals_has; number = number_of_values; sum = sum_of_values }
