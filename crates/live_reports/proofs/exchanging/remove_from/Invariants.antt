use Rattle.live_reports.specs.Exchanged.{tallies_with_new}
use Rattle.live_reports.specs.Tallies.{tallies_of, SameEach}
use Rattle.live_reports.proofs.exchanging.remove_from.Given as goal

abbrev pub invariant-loop-at : goal.invariant-loop-at
invariant-loop-at l = SameEach (tallies_of l.values) (tallies_with_new l.records l.place l.new l.at)
