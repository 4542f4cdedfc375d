use Rattle.std.proofs.Common.{◌≡◌, ◌≤◌, ◌++◌, length, map}
use Rattle.trace_record.specs.Facts.{facts_of}
use Rattle.trace_groups.specs.Groups.{marks_of}
use Rattle.trace_groups.specs.OfTally.{IsTallyOf, IsWithin}
use Rattle.trace_groups.proofs.suspect_groups.group_by.Given as goal

-- the traces so far are counted
abbrev pub invariant-loop-trace : goal.invariant-loop-trace
invariant-loop-trace g l =
    (l.yielded ++ l.trace-iterator ≡ l.fn.records) × (l.position ≡ length l.yielded) × IsWithin (length l.yielded) l.tally
    × IsTallyOf (marks_of (g.S.Suspicion.facts l.fn.suspicion) (map facts_of l.yielded)) l.tally
    × (l.initial.room ≤ l.room)
