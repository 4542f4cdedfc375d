-- The statistics that the numbers of a loop over floats stand for.
use Rattle.std.specs.Prelude.{ℕ, pos}
use Rattle.trace_record.specs.declared.floats.Ranks.{Ranks}
use Rattle.trace_record.specs.declared.statistics.Statistics.{Statistics}

-- of n samples
abbrev pub statistics_of_ranks : Ranks → ℕ → Statistics
statistics_of_ranks s n = record { least = s.least; greatest = s.greatest; sum = pos s.no_numbers; number = n }
