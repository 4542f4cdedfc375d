use Rattle.std.proofs.Common.{◌≡◌, ◌≤◌, ◌++◌, length, map}
use Rattle.std.specs.List.{filter_map}
use Rattle.trace_record.specs.Facts.{facts_of}
use Rattle.trace_groups.specs.Groups.{marks_of}
use Rattle.trace_groups.specs.Loud.{amount_of}
use Rattle.trace_groups.specs.OfTally.{IsTallyOf, IsWithin}
use Rattle.trace_groups.specs.Suspects.{dead_facts}
use Rattle.trace_groups.proofs.samples.dead_and_amounts.Given as goal

-- the dead ones of the traces so far are counted, and their amounts are listed
abbrev pub invariant-loop-trace : goal.invariant-loop-trace
invariant-loop-trace l =
    (l.yielded ++ l.trace-iterator ≡ l.fn.records) × (l.position ≡ length l.yielded) × IsWithin (length l.yielded) l.tally
    × IsTallyOf (marks_of (dead_facts l.fn.floats) (map facts_of l.yielded)) l.tally
    × (l.amounts.items ≡ filter_map (amount_of l.fn.floats) (map facts_of l.yielded))
    × (l.initial.room ≤ l.room)
