use Rattle.std.proofs.Common.{◌≡◌, drop}
use Rattle.chosen_traces.proofs.by_records.records_from.Given as goal

-- so many records are gone over
abbrev pub invariant-loop-gone : goal.invariant-loop-gone
invariant-loop-gone l = l.left ≡ drop l.gone l.records
