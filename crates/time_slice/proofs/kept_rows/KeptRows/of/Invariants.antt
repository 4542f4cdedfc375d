use Rattle.std.proofs.Common.{◌≡◌, map, take, ◌≤◌}
use Rattle.bench_rules.specs.KeptSlices.{kept_of}
use Rattle.time_slice.specs.Fitting.{has_signs}
use Rattle.time_slice.specs.Shown.{pair_of}
use Rattle.time_slice.proofs.kept_rows.KeptRows.of.Given as goal

abbrev pub invariant-loop-row : goal.invariant-loop-row
invariant-loop-row l =
    (map (pair_of l.signed) l.kept.items ≡ kept_of (take l.row-index l.rows))
    × (l.signed ≡ has_signs l.fn.format)
    × (l.initial.room ≤ l.room)
