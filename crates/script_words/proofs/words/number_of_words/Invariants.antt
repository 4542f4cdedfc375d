use Rattle.std.proofs.Common.{◌≡◌, ◌+◌, length}
use Rattle.script_words.specs.Words.{words_of}
use Rattle.script_words.proofs.words.number_of_words.Given as goal

-- the words are those that were counted and those left
abbrev pub invariant-loop-count : goal.invariant-loop-count
invariant-loop-count l = l.count + length (words_of l.words) ≡ length (words_of l.text)
