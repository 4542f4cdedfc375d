use Rattle.std.proofs.Common.{◌≡◌, ◌≤◌, length, take}
use Rattle.text_block.specs.Lines.{without_blanks}
use Rattle.script_text.proofs.long_texts.without_blanks.Given as goal

-- the blanks behind the end do not count
abbrev pub invariant-loop-end : goal.invariant-loop-end
invariant-loop-end l = (l.end ≤ length l.text) × (without_blanks (take l.end l.text) ≡ without_blanks l.text)

abbrev pub decreases-loop-end : goal.decreases-loop-end
decreases-loop-end l = l.end
