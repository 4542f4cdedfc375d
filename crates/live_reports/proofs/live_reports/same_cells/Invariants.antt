use Rattle.std.proofs.Common.{◌≡◌, ◌+◌, drop}
use Rattle.live_reports.specs.Exchanged.{same_cells}
use Rattle.live_reports.proofs.live_reports.same_cells.Given as goal

abbrev pub invariant-loop-k : goal.invariant-loop-k
invariant-loop-k l = same_cells (drop (l.place + l.k) l.records) (drop l.k l.new) ≡ same_cells (drop l.place l.records) l.new
