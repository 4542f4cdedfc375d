use Rattle.std.proofs.Common.{◌≡◌, ◌≤◌, ℕ, List, drop}
use Rattle.std.specs.List.{list_all}
use Rattle.frame_cut.specs.declared.file_head.Head.{Head}
use Rattle.trace_view.specs.Values.{has_floats}
use Rattle.trace_record.specs.OfTrace.{record_of}
use Rattle.bench_rules.specs.Conditions.{meets, test_in}
use Rattle.bench_rules.specs.ManyTraces.{each_of}
use Rattle.bench_rules.specs.RecordNumbers.{tells_test}
use Rattle.bench_rules.proofs.TestLemmas.{said}
use Rattle.chosen_traces.specs.RecordTests.{hold}
use Rattle.chosen_traces.proofs.record_tests.record_tests.Given as goal

-- those so far are told, and say of each trace what its record says
abbrev pub invariant-loop-test : goal.invariant-loop-test
invariant-loop-test l = record {
  exact : list_all (tells_test l.map.pairs) l.tests ≡ list_all (tells_test l.map.pairs) (drop l.test-index l.tests);
  tests : (h : Head) (t : List ℕ) → meets h t l.tests ≡ said (hold (has_floats h) (record_of h l.map.pairs t) l.told.items) (each_of (test_in h t) (drop l.test-index l.tests));
  memory : l.initial.room ≤ l.room;
}
