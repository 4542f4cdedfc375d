use Rattle.std.proofs.Common.{◌≡◌, drop}
use Rattle.trace_record.specs.Facts.{facts_of}
use Rattle.chosen_traces.specs.RecordTests.{hold}
use Rattle.chosen_traces.proofs.record_tests.hold.Given as goal

-- the record meets those so far
abbrev pub invariant-loop-test : goal.invariant-loop-test
invariant-loop-test l = hold l.floats (facts_of l.record) l.tests ≡ hold l.floats (facts_of l.record) (drop l.test-index l.tests)
