use Rattle.std.proofs.Common.{◌≡◌, ◌++◌, length, option_map, ◌≤◌}
use Rattle.script_words.specs.Words.{words_of}
use Rattle.script_words.specs.Conditions.{conditions_of}
use Rattle.script_words.proofs.conditions.conditions.Given as goal

-- the conditions of all words are those that are read, and then those of the words left
abbrev pub invariant-words : goal.invariant-words
invariant-words l = (conditions_of l.floats (words_of l.initial.words) ≡ option_map (λ ys. l.conditions.items ++ ys) (conditions_of l.floats (words_of l.words))) × (l.initial.room ≤ l.room)

abbrev pub decreases-words : goal.decreases-words
decreases-words l = length (words_of l.words)
