-- Facts that are what the bytes of a trace say.
use Rattle.std.proofs.Common.{Bool, ◌≡◌, ℕ, List, [], ℤ, Option, Some, None, ◌∙◌, SFits, to_z, of_z}
use Rattle.std.specs.Prelude.{codes}
use Rattle.std.specs.Option.{option_map_or}
use Rattle.std.specs.Int.{Width}
use Rattle.std.proofs.lemmas.Int.{to_z-of_z}
use Rattle.num_order.specs.declared.order.Order.{Order}
use Rattle.sample_codes.specs.declared.value_format.ValueFormat.{ValueFormat}
use Rattle.field_map.specs.Pairs.{Pairs}
use Rattle.frame_cut.specs.declared.file_head.Head.{Head}
use Rattle.frame_cut.specs.Frames.{header_unsigned, sample_count}
use Rattle.trace_view.specs.Values.{samples_in, has_floats, samples_of}
use Rattle.trace_record.specs.Facts.{Facts, with_amplitudes}
use Rattle.trace_record.specs.OfTrace.{record_of, bound_value, signed_value, has_known_name_of}
use Rattle.key_counts.specs.Coordinates.{under_scalar}
use Rattle.trace_record.specs.declared.amplitudes.Amplitudes.{Amplitudes}
use Rattle.trace_record.specs.declared.statistics.Statistics.{Statistics}
use Rattle.trace_record.specs.Statistics.{statistics_of, amplitudes_of}
use Rattle.trace_record.proofs.StatisticsLemmas.{says}
use Rattle.trace_record.proofs.SampleLemmas.{length-samples_in}

-- a number that fits keeps its value
pub kept : (w : Width) (z v : ℤ) → SFits w z → z ≡ v → to_z w (of_z w z) ≡ v
kept w z v fits e = to_z-of_z w z fits ∙ e

-- each of the facts holds, with these amplitudes of so many samples
pub record IsOf (f : Facts) (h : Head) (fields : Pairs) (t : List ℕ) (a : Option Amplitudes) (n : ℕ) : Type 0 where
  pub inline : f.inline ≡ bound_value h fields t (codes "inline")
  pub crossline : f.crossline ≡ bound_value h fields t (codes "crossline")
  pub offset : f.offset ≡ bound_value h fields t (codes "offset")
  pub x : f.x ≡ under_scalar (bound_value h fields t (codes "x")) (bound_value h fields t (codes "scalar"))
  pub y : f.y ≡ under_scalar (bound_value h fields t (codes "y")) (bound_value h fields t (codes "scalar"))
  pub scalar : f.scalar ≡ bound_value h fields t (codes "scalar")
  pub sequence : f.sequence ≡ signed_value h t 5 4
  pub units : f.units ≡ signed_value h t 89 2
  pub interval : f.interval ≡ header_unsigned h 0 117 2 t
  pub samples_field : f.samples_field ≡ header_unsigned h 0 115 2 t
  pub has_known_name : f.has_known_name ≡ has_known_name_of t
  pub amplitudes : f.amplitudes ≡ a
  pub number : f.number ≡ n

pub facts_with : (f : Facts) (h : Head) (fields : Pairs) (t : List ℕ) (a : Option Amplitudes) (n : ℕ) → IsOf f h fields t a n → f ≡ with_amplitudes (record_of h fields t) a n
facts_with f h fields t a n e = λ i. record {
  inline = e.inline i;
  crossline = e.crossline i;
  offset = e.offset i;
  x = e.x i;
  y = e.y i;
  scalar = e.scalar i;
  sequence = e.sequence i;
  units = e.units i;
  interval = e.interval i;
  samples_field = e.samples_field i;
  has_known_name = e.has_known_name i;
  amplitudes = e.amplitudes i;
  number = e.number i;
}

-- the amplitudes and the number of the trace's own samples make it the record of the trace
pub with_own : (h : Head) (fields : Pairs) (t : List ℕ) (a : Option Amplitudes) (n : ℕ) → a ≡ amplitudes_of (has_floats h) (samples_of h t) → n ≡ sample_count h t → with_amplitudes (record_of h fields t) a n ≡ record_of h fields t
with_own h fields t a n amplitudes number = λ i. record (record_of h fields t) { amplitudes = amplitudes i; number = number i }

-- where n samples have values, statistics of them are of n samples
pub counted : (floats : Bool) (o : Order) (f : Option ValueFormat) (n : ℕ) (bytes : List ℕ) (s : Statistics) → Some s ≡ statistics_of floats (option_map_or (λ g. samples_in o g n bytes) f []) → s.number ≡ n
counted floats o None n bytes s e = absurd cc
counted floats o (Some g) n bytes s e = (says floats s (samples_in o g n bytes) e).1.1.1 ∙ length-samples_in o g n bytes
