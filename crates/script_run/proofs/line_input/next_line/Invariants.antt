use Rattle.std.proofs.Common.{◌≡◌, ◌≤◌, length}
use Rattle.script_run.specs.Input.{left_of, IsLostWithCause, TakesFront}
use Rattle.script_run.proofs.line_input.next_line.Given as goal

abbrev pub invariant-parts : goal.invariant-parts
invariant-parts g l =
    (front : TakesFront (left_of l.initial.ahead (g.S.Read.remaining l.initial.source.inner)) (left_of l.ahead (g.S.Read.remaining l.source.inner)) l.line)
    × (l.counter ≤ length front.part)
    × (l.source.failures ≡ l.initial.source.failures)
    × IsLostWithCause l.line l.initial.room l.room
    × (l.initial.room ≤ l.room)
