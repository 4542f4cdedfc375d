use Rattle.std.proofs.Common.{◌≡◌, ◌++◌, length, map, ◌≤◌}
use Rattle.script_words.specs.Words.{words_of}
use Rattle.script_words.specs.HeaderCommands.{is_falling}
use Rattle.script_words.proofs.sort_command.falling.Given as goal

-- those of the words that were read, and then those of the words left
abbrev pub invariant-words : goal.invariant-words
invariant-words l = (map is_falling (words_of l.initial.words) ≡ l.falling.items ++ map is_falling (words_of l.words)) × (l.initial.room ≤ l.room)

abbrev pub decreases-words : goal.decreases-words
decreases-words l = length (words_of l.words)
