use Rattle.std.proofs.Common.{◌≡◌, false, ◌≤◌, ◌-◌, ◌*◌, drop}
use Rattle.std.specs.Prelude.{Some}
use Rattle.sample_codes.specs.declared.value_format.ValueFormat.TheVariants.{Integer}
use Rattle.sample_codes.specs.Formats.{value_width}
use Rattle.trace_view.specs.Values.{samples_in}
use Rattle.trace_record.specs.Statistics.{statistics_of, statistics_of_both, HasRange}
use Rattle.trace_record.proofs.wide.wide_statistics.Given as goal

abbrev pub invariant-loop-i : goal.invariant-loop-i
invariant-loop-i g l = record {
  rises : 1 ≤ l.i;
  number : l.statistics.number ≡ l.i;
  range : HasRange l.statistics;
  rest : statistics_of_both (Some l.statistics) (statistics_of false (samples_in g.O.Ordered.order (Integer g.S.ReadsWide.format) (l.number - l.i) (drop (value_width (Integer g.S.ReadsWide.format) * l.i) l.bytes)))
      ≡ statistics_of false (samples_in g.O.Ordered.order (Integer g.S.ReadsWide.format) l.number l.bytes);
}
