use Rattle.std.proofs.Common.{◌≡◌, map, ◌≤◌}
use Rattle.std.specs.List.{range_with_len}
use Rattle.text_block.specs.Lines.{shown_line}
use Rattle.volume_answers.proofs.text_answers.lines_of.Given as goal

-- the lines so far
abbrev pub invariant-loop-before : goal.invariant-loop-before
invariant-loop-before l = (l.lines.items ≡ map (shown_line l.block) (range_with_len 1 l.before)) × (l.initial.room ≤ l.room)
