use Rattle.std.proofs.Common.{◌≡◌, drop}
use Rattle.trace_view.specs.Shown.{bytes_of, head_of}
use Rattle.bench_rules.specs.Conditions.{meets_by, test_by}
use Rattle.bench_rules.specs.ManyTraces.{each_of}
use Rattle.bench_rules.proofs.TestLemmas.{said}
use Rattle.bench_rules.proofs.test.meets_all.Given as goal

-- the conditions so far, and those that are left, say it
abbrev pub invariant-loop-test : goal.invariant-loop-test
invariant-loop-test l =
    meets_by (head_of l.trace) (bytes_of l.trace) l.amplitudes l.tests ≡ said l.all (each_of (test_by (head_of l.trace) (bytes_of l.trace) l.amplitudes) (drop l.test-index l.tests))
