use Rattle.std.proofs.Common.{◌≡◌, ◌++◌, map, drop, ◌≤◌}
use Rattle.trace_record.specs.Facts.{facts_of}
use Rattle.bench_rules.specs.KeptSlices.{rows_again}
use Rattle.time_slice.specs.Shown.{pair_of}
use Rattle.time_slice.proofs.kept_rows.KeptRows.rows.Given as goal

abbrev pub invariant-loop-kept : goal.invariant-loop-kept
invariant-loop-kept l =
    (l.rows.items ++ rows_again (map facts_of l.fn.records) (map (pair_of l.self-inside.signed) (drop l.kept-index l.self-inside.rows.items))
    ≡ rows_again (map facts_of l.fn.records) l.fn.self)
    × (l.walk ≡ l.fn.records)
    × (l.initial.room ≤ l.room)
