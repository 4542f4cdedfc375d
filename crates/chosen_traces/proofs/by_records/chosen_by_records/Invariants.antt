use Rattle.std.proofs.Common.{◌≡◌, ◌+◌, ◌-◌, List, true, drop, map, ◌≤◌}
use Rattle.field_map.specs.Pairs.{Pairs}
use Rattle.trace_record.specs.Packed.{record_in}
use Rattle.bench_rules.specs.declared.test.Test.{Test}
use Rattle.bench_rules.specs.Conditions.{AreRising}
use Rattle.chosen_traces.specs.RecordTests.{AreTestsOf, HasRecords}
use Rattle.chosen_traces.proofs.ChoosingLemmas.{AreChosen}
use Rattle.chosen_traces.proofs.by_records.chosen_by_records.Given as goal

-- what was chosen so far, which rises, and the records that are left
abbrev pub invariant-loop-k : goal.invariant-loop-k
invariant-loop-k l = record {
  chosen : (fields : Pairs) (conditions : List Test) → AreTestsOf fields conditions l.tests → HasRecords l.overlay fields → AreChosen l.overlay.volume conditions l.a l.b l.k l.traces.items;
  rising : AreRising l.a (l.a + l.k - 1) l.traces.items;
  left : l.in_order ≡ true → l.left ≡ drop (l.a - 1 + l.k) (map record_in l.overlay.payloads);
  memory : l.initial.room ≤ l.room;
}
