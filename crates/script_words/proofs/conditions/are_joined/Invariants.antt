use Rattle.std.proofs.Common.{◌≡◌, length}
use Rattle.script_words.specs.Words.{words_of}
use Rattle.script_words.specs.Conditions.{are_joined}
use Rattle.script_words.proofs.conditions.are_joined.Given as goal

-- whether all words are joined is whether those left are
abbrev pub invariant-words : goal.invariant-words
invariant-words l = are_joined (words_of l.words) ≡ are_joined (words_of l.initial.words)

abbrev pub decreases-words : goal.decreases-words
decreases-words l = length (words_of l.words)
