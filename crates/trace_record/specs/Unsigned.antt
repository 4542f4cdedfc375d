-- Statistics of unsigned samples of 32 bits.
use Rattle.std.specs.Prelude.{ℕ, pos}
use Rattle.trace_record.specs.declared.statistics.Statistics.{Statistics}
use Rattle.trace_record.specs.declared.unsigned.Unsigned.{Unsigned}

-- the statistics that it says of so many samples
abbrev pub statistics_of_unsigned : Unsigned → ℕ → Statistics
statistics_of_unsigned s n = record { least = pos s.least; greatest = pos s.greatest; sum = pos s.sum; number = n }
