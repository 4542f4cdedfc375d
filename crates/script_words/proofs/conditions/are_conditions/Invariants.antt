use Rattle.std.proofs.Common.{◌≡◌, length, is_some}
use Rattle.script_words.specs.Words.{words_of}
use Rattle.script_words.specs.Conditions.{conditions_of}
use Rattle.script_words.proofs.conditions.are_conditions.Given as goal

-- whether all words are conditions is whether those left are
abbrev pub invariant-words : goal.invariant-words
invariant-words l = is_some (conditions_of l.floats (words_of l.words)) ≡ is_some (conditions_of l.floats (words_of l.initial.words))

abbrev pub decreases-words : goal.decreases-words
decreases-words l = length (words_of l.words)
