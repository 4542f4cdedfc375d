use Rattle.std.proofs.Common.{◌+◌, ◌-◌, ◌≤◌}
use Rattle.field_map.specs.Pairs.{Pairs}
use Rattle.edit_overlay.specs.CountedVolume.{IsSeen}
use Rattle.edit_overlay.specs.Reads.{HaveAgreed}
use Rattle.bench_rules.specs.Conditions.{AreRising}
use Rattle.chosen_traces.specs.RecordTests.{HasRecords}
use Rattle.chosen_traces.proofs.ChoosingLemmas.{AreChosen}
use Rattle.chosen_traces.proofs.choosing.chosen_from.Given as goal

-- what was chosen so far, which rises, and a look at each trace
abbrev pub invariant-loop-k : goal.invariant-loop-k
invariant-loop-k l = record {
  chosen : (fields : Pairs) → HaveAgreed l.overlay.reads → HasRecords l.fn.overlay fields → AreChosen l.fn.overlay.volume l.tests l.a l.b l.k l.traces.items;
  rising : AreRising l.a (l.a + l.k - 1) l.traces.items;
  seen : IsSeen l.fn.overlay l.overlay l.k;
  memory : l.initial.room ≤ l.room;
}
