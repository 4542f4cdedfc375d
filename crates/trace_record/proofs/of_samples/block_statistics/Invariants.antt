use Rattle.std.proofs.Common.{◌≡◌, ◌≤◌, ◌-◌, IfSome}
use Rattle.trace_view.specs.Shown.{bytes_of, head_of}
use Rattle.trace_view.specs.Values.{samples_in, sample_bytes}
use Rattle.sample_codes.specs.Formats.{is_float}
use Rattle.trace_record.specs.Statistics.{statistics_of, HasRange}
use Rattle.trace_record.proofs.of_samples.block_statistics.Given as goal

abbrev pub invariant-loop-from : goal.invariant-loop-from
invariant-loop-from l = record {
  inside : l.from ≤ l.count;
  range : IfSome l.statistics HasRange;
  so_far : l.statistics ≡ statistics_of (is_float l.format) (samples_in (head_of l.view).order l.format l.from (sample_bytes (head_of l.view) (bytes_of l.view)));
}

abbrev pub decreases-loop-from : goal.decreases-loop-from
decreases-loop-from l = l.count - l.from
