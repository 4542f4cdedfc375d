use Rattle.std.proofs.Common.{◌≡◌, ◌++◌, ◌+◌, length, drop, ◌≤◌}
use Rattle.bench_rules.specs.Answer.{text_blocks, stanzas_from}
use Rattle.volume_answers.proofs.text_answers.stanzas_answer.Given as goal

-- what was listed and what is left to list are all
abbrev pub invariant-loop-before : goal.invariant-loop-before
invariant-loop-before l =
    (l.before-end ≡ length (text_blocks l.fn.overlay.volume)) × (l.all.items ++ stanzas_from (l.before + 1) (drop l.before (text_blocks l.fn.overlay.volume)) ≡ stanzas_from 1 (text_blocks l.fn.overlay.volume)) × (l.initial.room ≤ l.room)
