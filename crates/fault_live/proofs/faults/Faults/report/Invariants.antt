use Rattle.std.proofs.Common.{◌≡◌, ◌≤◌, ◌<◌, ◌+◌, ◌++◌, length, map}
use Rattle.std.specs.Prelude.{flat_map}
use Rattle.std.specs.List.{enumerate_from}
use Rattle.std.specs.BTreeMap.{get}
use Rattle.key_counts.specs.Counts.{count_of}
use Rattle.trace_record.specs.Facts.{Facts, facts_of}
use Rattle.trace_record.specs.Tally.{Same, tally_of}
use Rattle.fault_live.specs.FaultKeys.{keys_of_faults}
use Rattle.window_counts.specs.Places.{triple_cmp}
use Rattle.fault_live.specs.OfFaults.{tally_of_faults}
use Rattle.fault_live.specs.Faults.{faults_of, trace_faults, first_with}
use Rattle.fault_live.proofs.faults.Faults.report.Given as goal

abbrev pub invariant-loop-trace : goal.invariant-loop-trace
invariant-loop-trace l =
    (l.yielded ++ l.trace-iterator ≡ l.fn.records)
    × (l.position ≡ length l.yielded)
    × (l.initial.room ≤ l.room)
    × (Same (tally_of_faults l.fn.self) (tally_of keys_of_faults (map facts_of l.fn.records))
    → (l.report.items ++ flat_map (λ e. trace_faults l.fn.head (map facts_of l.fn.records) e.0 e.1) (enumerate_from (l.position + 1) (map facts_of l.trace-iterator)) ≡ faults_of l.fn.head (map facts_of l.fn.records))
    × ((g : Facts) → 1 < count_of triple_cmp l.fn.self.triples (g.inline, g.crossline, g.offset) → get triple_cmp l.firsts (g.inline, g.crossline, g.offset) ≡ first_with (map facts_of l.yielded) g))
