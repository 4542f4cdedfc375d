-- The totals of the samples of a list of traces.
use Rattle.std.specs.Prelude.{List, [], ◌∷◌, Option, None}
use Rattle.trace_record.specs.Facts.{Facts, statistics_in}
use Rattle.trace_record.specs.Statistics.{statistics_of_both}
use Rattle.trace_record.specs.declared.statistics.Statistics.{Statistics}

-- the least, the greatest, the sum and the number of all samples that have values, and none without any
abbrev pub totals_of : List Facts → Option Statistics
totals_of [] = None
totals_of (f ∷ fs) = statistics_of_both (statistics_in f) (totals_of fs)
