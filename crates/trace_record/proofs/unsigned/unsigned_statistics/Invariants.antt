use Rattle.std.proofs.Common.{◌≡◌, false, ◌≤◌, ◌-◌, ◌*◌, ◌^◌, drop}
use Rattle.std.specs.Prelude.{Some}
use Rattle.sample_codes.specs.declared.value_format.ValueFormat.TheVariants.{Integer}
use Rattle.sample_codes.specs.declared.integer_format.IntegerFormat.TheVariants.{Unsigned32}
use Rattle.trace_view.specs.Values.{samples_in}
use Rattle.trace_record.specs.Statistics.{statistics_of, statistics_of_both}
use Rattle.trace_record.specs.Unsigned.{statistics_of_unsigned}
use Rattle.trace_record.proofs.unsigned.unsigned_statistics.Given as goal

abbrev pub invariant-loop-i : goal.invariant-loop-i
invariant-loop-i g l = record {
  rises : 1 ≤ l.i;
  small : l.unsigned.sum ≤ (2 ^ 32 - 1) * l.i;
  rest : statistics_of_both (Some (statistics_of_unsigned l.unsigned l.i)) (statistics_of false (samples_in g.O.Ordered.order (Integer Unsigned32) (l.number - l.i) (drop (4 * l.i) l.bytes)))
      ≡ statistics_of false (samples_in g.O.Ordered.order (Integer Unsigned32) l.number l.bytes);
}
