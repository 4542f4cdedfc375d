use Rattle.std.proofs.Common.{take, drop}
use Rattle.live_reports.specs.Exchanged.{with_records, tallies_with_new, AreFewTogether}
use Rattle.live_reports.specs.Tallies.{tallies_of, SameEach}
use Rattle.live_reports.proofs.exchanging.drop_each.Given as goal

-- the first new ones stand in their places, and the old ones there are no longer counted
abbrev pub invariant-loop-k : goal.invariant-loop-k
invariant-loop-k l = record {
  few : AreFewTogether (with_records l.records l.place (take l.k l.new)) (drop l.k l.new);
  counted : SameEach (tallies_of l.values) (tallies_with_new (with_records l.records l.place (take l.k l.new)) l.place l.new l.k);
}
