use Rattle.std.proofs.Common.{◌≡◌, true, ◌≤◌, ◌-◌, ◌*◌, drop}
use Rattle.std.specs.Prelude.{Some}
use Rattle.sample_codes.specs.declared.value_format.ValueFormat.TheVariants.{Float}
use Rattle.float_codes.specs.Values.{float_width}
use Rattle.trace_view.specs.Values.{samples_in}
use Rattle.trace_record.specs.Statistics.{statistics_of, statistics_of_both}
use Rattle.trace_record.specs.Floats.{statistics_of_ranks}
use Rattle.trace_record.proofs.floats.float_statistics.Given as goal

abbrev pub invariant-loop-i : goal.invariant-loop-i
invariant-loop-i g l = record {
  rises : 1 ≤ l.i;
  few : l.ranks.no_numbers ≤ l.i;
  rest : statistics_of_both (Some (statistics_of_ranks l.ranks l.i)) (statistics_of true (samples_in g.O.Ordered.order (Float g.S.ReadsFloat.format) (l.number - l.i) (drop (float_width g.S.ReadsFloat.format * l.i) l.bytes)))
      ≡ statistics_of true (samples_in g.O.Ordered.order (Float g.S.ReadsFloat.format) l.number l.bytes);
}
