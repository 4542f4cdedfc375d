use Rattle.std.proofs.Common.{◌≤◌}
use Rattle.live_reports.specs.Exchanged.{tallies_with_new}
use Rattle.live_reports.specs.Tallies.{tallies_of, SameEach}
use Rattle.live_reports.proofs.exchanging.add_each.Given as goal

abbrev pub invariant-loop-k : goal.invariant-loop-k
invariant-loop-k l = SameEach (tallies_of l.values) (tallies_with_new l.records l.place l.new l.k) × (l.initial.room ≤ l.room)
