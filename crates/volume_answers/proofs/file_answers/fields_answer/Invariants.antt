use Rattle.std.proofs.Common.{◌≡◌, ◌++◌, ◌≤◌}
use Rattle.volume_answers.proofs.file_answers.fields_answer.Given as goal

-- what was listed and what is left to list are all
abbrev pub invariant-loop-name : goal.invariant-loop-name
invariant-loop-name l = (l.all.items ++ l.name-iterator ≡ l.initial.name-iterator) × (l.initial.room ≤ l.room)
