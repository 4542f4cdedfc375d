-- What the samples of a trace say where they are floats.
use Rattle.std.specs.Prelude.{ℤ, Bool, true, false, List, map, Option, Some, None, option_map}
use Rattle.std.specs.Float.{Float}
use Rattle.float_codes.specs.declared.float_format.FloatFormat.{FloatFormat}
use Rattle.float_codes.specs.Ranks.{rank_of, value_at}
use Rattle.float_sum.specs.Sums.{total_of}
use Rattle.sample_codes.specs.declared.format.Format.{Format}
use Rattle.sample_codes.specs.declared.format.Format.TheVariants.{Valued, Opaque}
use Rattle.sample_codes.specs.declared.value_format.ValueFormat.TheVariants.{Integer, Float as Floats}
use Rattle.trace_record.specs.Statistics.{statistics_of}
use Rattle.bench_rules.specs.declared.answer.Answer.{Answer}
use Rattle.bench_rules.specs.declared.answer.Answer.TheVariants as answers
use Rattle.bench_rules.specs.declared.float_statistics.FloatStatistics.{FloatStatistics}

-- the format of a file's samples where they are floats
abbrev pub float_format : Format → Option FloatFormat
float_format (Valued (Integer f)) = None
float_format (Valued (Floats f)) = Some f
float_format (Opaque f) = None

-- the floats of which these are the ranks
abbrev pub floats_of : List ℤ → List Float
floats_of vs = map value_at vs

-- the least and the greatest that is a number, the rank of the exact sum rounded once, how many samples there are, and how many are no number
abbrev pub float_statistics_of : List ℤ → Option FloatStatistics
float_statistics_of vs =
    option_map (λ s. record { least = s.least; greatest = s.greatest; sum = rank_of (total_of (floats_of vs)); number = s.number; no_numbers = s.sum })
    (statistics_of true vs)

-- the answer for the samples of a trace; whether they are floats comes first
abbrev pub stat_of : Bool → List ℤ → Answer
stat_of false vs = answers.Stat (statistics_of false vs)
stat_of true vs = answers.FloatStat (float_statistics_of vs)
