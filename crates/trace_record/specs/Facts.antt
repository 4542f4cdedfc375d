-- What the reports need of one trace.
use Rattle.std.specs.Prelude.{ℕ, ℤ, pos, Bool, List, length, Option, option_map}
use Rattle.std.specs.Option.{option_map_or}
use Rattle.trace_record.specs.Statistics.{amplitudes_of, statistics_with}
use Rattle.trace_record.specs.declared.amplitudes.Amplitudes.{Amplitudes}
use Rattle.key_counts.specs.declared.ratio.Ratio.{Ratio}
use Rattle.trace_record.specs.declared.record.Record.{Record}
use Rattle.trace_record.specs.declared.statistics.Statistics.{Statistics}

-- the facts of one trace, its coordinates under its scalar
pub record Facts : Type 0 where
  pub inline : ℤ
  pub crossline : ℤ
  pub offset : ℤ
  pub x : Ratio
  pub y : Ratio
  pub scalar : ℤ
  -- trace header, bytes 5-8
  pub sequence : ℤ
  -- bytes 89-90
  pub units : ℤ
  -- bytes 117-118
  pub interval : ℕ
  -- bytes 115-116
  pub samples_field : ℕ
  -- bytes 233-240 are zeros or `SEG00000`
  pub has_known_name : Bool
  -- of the samples, none without any and none where they have no values
  pub amplitudes : Option Amplitudes
  -- how many samples there are
  pub number : ℕ

-- the facts that a record holds
abbrev pub facts_of : Record → Facts
facts_of r = record {
  inline = r.inline;
  crossline = r.crossline;
  offset = r.offset;
  x = r.x;
  y = r.y;
  scalar = r.scalar;
  sequence = r.sequence;
  units = r.units;
  interval = r.interval;
  samples_field = r.samples_field;
  has_known_name = r.has_known_name;
  amplitudes = r.amplitudes;
  number = r.number;
}

-- the statistics of the trace's samples, none without any and none where they have no values
abbrev pub statistics_in : Facts → Option Statistics
statistics_in f = option_map (λ a. statistics_with a f.number) f.amplitudes

-- how many of the trace's samples have values
abbrev pub number_of_values : Facts → ℕ
number_of_values f = option_map_or (λ a. f.number) f.amplitudes 0

-- the sum of these values
abbrev pub sum_of_values : Facts → ℤ
sum_of_values f = option_map_or (λ a. a.sum) f.amplitudes (pos 0)

-- the same facts with these amplitudes of so many samples
abbrev pub with_amplitudes : Facts → Option Amplitudes → ℕ → Facts
with_amplitudes f a n = record f { amplitudes = a; number = n }

-- the same facts with the amplitudes and the number of these samples; whether they are floats comes first
abbrev pub with_samples : Bool → Facts → List ℤ → Facts
with_samples floats f vs = with_amplitudes f (amplitudes_of floats vs) (length vs)

-- the same facts with what other facts say of the samples
abbrev pub with_samples_of : Facts → Facts → Facts
with_samples_of f g = with_amplitudes f g.amplitudes g.number
