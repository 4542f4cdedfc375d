use Rattle.std.proofs.Common.{◌≡◌, ◌≤◌, take}
use Rattle.trace_groups.specs.Groups.{marks_of}
use Rattle.trace_groups.specs.OfTally.{IsTallyOf, IsWithin}
use Rattle.trace_groups.specs.Others.{other_facts}
use Rattle.trace_groups.proofs.others.group_beside.Given as goal

-- the traces so far are counted
abbrev pub invariant-loop-number : goal.invariant-loop-number
invariant-loop-number l =
    (l.position ≡ l.number-index) × IsWithin l.number-index l.tally
    × IsTallyOf (marks_of (other_facts l.fn.usual) (take l.number-index l.fn.numbers)) l.tally
    × (l.initial.room ≤ l.room)
