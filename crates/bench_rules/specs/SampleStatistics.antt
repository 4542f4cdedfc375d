-- What the samples of traces say. Whether they are floats comes first; floats are ranks.
use Rattle.std.specs.Prelude.{ℕ, ℤ, pos, Bool, true, false, List, map, count_by, Ok}
use Rattle.std.specs.Ordering.{int_eq}
use Rattle.frame_cut.specs.Traces.{trace_at}
use Rattle.frame_cut.specs.Volume.{Volume}
use Rattle.trace_view.specs.Values.{has_floats, samples_of}
use Rattle.trace_record.specs.Statistics.{statistics_of}
use Rattle.trace_groups.specs.Suspects.{value_of}
use Rattle.bench_rules.specs.declared.answer.Answer.{Answer}
use Rattle.bench_rules.specs.declared.answer.Answer.TheVariants as answers
use Rattle.bench_rules.specs.declared.trace_statistics.FloatTraceStatistics.{FloatTraceStatistics}
use Rattle.bench_rules.specs.declared.trace_statistics.TraceStatistics.{TraceStatistics}
use Rattle.bench_rules.specs.FloatStatistics.{float_statistics_of}
use Rattle.bench_rules.specs.Replies.{Reply, of_values}

-- the sample is 0; of floats -0 too
abbrev pub is_zero : Bool → ℤ → Bool
is_zero floats x = int_eq (value_of floats x) (pos 0)

-- how many samples are 0
abbrev pub zeros_in : Bool → List ℤ → ℕ
zeros_in floats vs = count_by (is_zero floats) vs

-- what the samples of the trace at p say, which are whole numbers
abbrev pub trace_statistics : (p : ℕ) → List ℤ → TraceStatistics
trace_statistics p vs = record { position = p; statistics = statistics_of false vs; zeros = zeros_in false vs }

-- the same of floats
abbrev pub float_trace_statistics : (p : ℕ) → List ℤ → FloatTraceStatistics
float_trace_statistics p vs = record { position = p; statistics = float_statistics_of vs; zeros = zeros_in true vs }

-- the samples of trace p
abbrev pub samples_at : Volume → ℕ → List ℤ
samples_at v p = samples_of v.head (trace_at v p)

-- what the samples of each of these traces say
abbrev pub statistics_of_each : Bool → Volume → List ℕ → Answer
statistics_of_each false v ps = answers.Stats (map (λ p. trace_statistics p (samples_at v p)) ps)
statistics_of_each true v ps = answers.FloatStats (map (λ p. float_trace_statistics p (samples_at v p)) ps)

-- the same, where samples have values
abbrev pub stats_answer_of_each : Volume → List ℕ → Reply
stats_answer_of_each v ps = of_values v.head (Ok (statistics_of_each (has_floats v.head) v ps))
