-- What the reports of a volume say of all its traces.
use Rattle.std.specs.Prelude.{◌≡◌}
use Rattle.std.specs.List.{flat_map}
use Rattle.trace_record.specs.Statistics.{statistics_of}
use Rattle.trace_view.specs.Values.{has_floats, samples_of}
use Rattle.bench_rules.specs.Reports.{totals_in}
use Rattle.bench_rules.specs.State.{State}

-- the totals of a volume are the statistics of the samples of all its traces, of floats those of ranks, one trace after another; there are none
-- where samples have no values
abbrev pub TotalsAreOfAllSamples : Type 0
TotalsAreOfAllSamples = (s : State) → totals_in s ≡ statistics_of (has_floats s.volume.head) (flat_map (samples_of s.volume.head) s.volume.traces)
