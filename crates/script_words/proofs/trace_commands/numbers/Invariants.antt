use Rattle.std.proofs.Common.{◌≡◌, ◌++◌, length, option_map, ◌≤◌}
use Rattle.script_words.specs.Words.{words_of}
use Rattle.script_words.specs.Readers.{numbers_of}
use Rattle.script_words.proofs.trace_commands.numbers.Given as goal

-- the numbers of all words are those that are read, and then those of the words left
abbrev pub invariant-words : goal.invariant-words
invariant-words l = (numbers_of l.floats (words_of l.initial.words) ≡ option_map (λ ys. l.values.items ++ ys) (numbers_of l.floats (words_of l.words))) × (l.initial.room ≤ l.room)

abbrev pub decreases-words : goal.decreases-words
decreases-words l = length (words_of l.words)
