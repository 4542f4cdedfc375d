use Rattle.std.proofs.Common.{◌≡◌, false, ◌≤◌, ◌-◌, ◌*◌, ◌^◌, pos, neg_ℤ, ◌≤ℤ◌, drop}
use Rattle.std.specs.Prelude.{Some}
use Rattle.sample_codes.specs.declared.value_format.ValueFormat.TheVariants.{Integer}
use Rattle.sample_codes.specs.Formats.{value_width}
use Rattle.trace_view.specs.Values.{samples_in}
use Rattle.trace_record.specs.Statistics.{statistics_of, statistics_of_both}
use Rattle.trace_record.specs.Narrow.{statistics_of_narrow}
use Rattle.trace_record.proofs.narrow.narrow_statistics.Given as goal

abbrev pub invariant-loop-i : goal.invariant-loop-i
invariant-loop-i g l = record {
  rises : 1 ≤ l.i;
  low : neg_ℤ (pos (2 ^ 31 * l.i)) ≤ℤ l.narrow.sum;
  high : l.narrow.sum ≤ℤ pos (2 ^ 31 * l.i);
  rest : statistics_of_both (Some (statistics_of_narrow l.narrow l.i)) (statistics_of false (samples_in g.O.Ordered.order (Integer g.S.ReadsSample.format) (l.number - l.i) (drop (value_width (Integer g.S.ReadsSample.format) * l.i) l.bytes)))
      ≡ statistics_of false (samples_in g.O.Ordered.order (Integer g.S.ReadsSample.format) l.number l.bytes);
}
