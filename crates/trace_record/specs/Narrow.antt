-- Statistics of samples that fit 32 bits in two's complement.
use Rattle.std.specs.Prelude.{ℕ}
use Rattle.trace_record.specs.declared.narrow.Narrow.{Narrow}
use Rattle.trace_record.specs.declared.statistics.Statistics.{Statistics}

-- the statistics that narrow numbers stand for, of so many samples
abbrev pub statistics_of_narrow : Narrow → ℕ → Statistics
statistics_of_narrow s n = record { least = s.least; greatest = s.greatest; sum = s.sum; number = n }
