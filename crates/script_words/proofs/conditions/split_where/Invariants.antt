use Rattle.std.proofs.Common.{length}
use Rattle.script_words.specs.Words.{words_of}
use Rattle.script_words.proofs.CutLemmas.{IsCutAt}
use Rattle.script_words.proofs.conditions.split_where.Given as goal

-- the words in front of those left have no conditions among them
abbrev pub invariant-words : goal.invariant-words
invariant-words l = IsCutAt l.text l.words

abbrev pub decreases-words : goal.decreases-words
decreases-words l = length (words_of l.words)
