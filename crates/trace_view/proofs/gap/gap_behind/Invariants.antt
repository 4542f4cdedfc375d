use Rattle.std.proofs.Common.{◌≡◌, ◌≤◌, ◌⊎◌, take, drop}
use Rattle.std.specs.Prelude.{count_by}
use Rattle.trace_view.specs.Runs.{FitFrom}
use Rattle.trace_view.specs.Puts.{Show, is_behind}
use Rattle.trace_view.proofs.gap.gap_behind.Given as goal

abbrev pub invariant-loop-run : goal.invariant-loop-run
invariant-loop-run l = record {
  counted : l.index ≡ l.run-index;
  least : l.end ≤ l.place;
  most : l.place ≤ l.limit;
  before : FitFrom 0 (take l.run-index l.runs) l.place;
  others : (l.place ≡ l.end) ⊎ FitFrom l.place (drop l.run-index l.runs) l.limit;
  shown : Show l.runs l.limit l.end l.place l.bytes;
  none : count_by (is_behind l.end) (take l.run-index l.runs) ≡ 0;
}
