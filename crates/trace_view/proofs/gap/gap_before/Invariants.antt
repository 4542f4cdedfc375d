use Rattle.std.proofs.Common.{◌≡◌, take}
use Rattle.std.specs.Prelude.{count_by}
use Rattle.trace_view.specs.Runs.{FitFrom}
use Rattle.trace_view.specs.Puts.{is_in_front}
use Rattle.trace_view.proofs.gap.gap_before.Given as goal

abbrev pub invariant-loop-run : goal.invariant-loop-run
invariant-loop-run l = record {
  counted : l.index ≡ l.run-index;
  before : FitFrom 0 (take l.run-index l.runs) l.at;
  front : count_by (is_in_front l.at) (take l.run-index l.runs) ≡ l.run-index;
}
