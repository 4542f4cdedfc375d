use Rattle.std.proofs.Common.{sym, ap, ◌∙◌}
use Rattle.script_words.specs.Words.{behind_word}
use Rattle.script_words.proofs.BoundaryLemmas.{word_begins, word_ends, rest_is}
use Rattle.script_words.proofs.WordLemmas.{no_words, next_is}
use Rattle.script_words.proofs.words.Words.next.Goals as goal

pub returns-in_err-first-clause-none : goal.returns-in_err-first-clause-none
returns-in_err-first-clause-none c =
    rw (c.from_residual.ensures, ← c.self.view_is)
    (no_words c.self.inside.rest.now (rw c.as_bytes.ensures.value at (sym c.first_character.ensures ∙ c.in_err-first.was)))

pub split_at-requires : goal.split_at-requires
split_at-requires c =
    word_begins c.self.inside.rest.now c.in_ok-first.first (rw c.as_bytes.ensures.value at c.as_bytes.ensures.utf8) (rw c.as_bytes.ensures.value at (sym c.first_character.ensures ∙ c.in_ok-first.was))

pub split_at-requires-2 : goal.split_at-requires-2
split_at-requires-2 c = word_ends c.split_at.result.1.now c.word_length.result (rw c.as_bytes-2.ensures.value at c.word_length.ensures)

pub returns-clause-some : goal.returns-clause-some
returns-clause-some c =
    rw (← c.self.view_is)
    (next_is _ _ _ _ c.in_ok-first.first c.word_length.result (rw c.as_bytes.ensures.value at (sym c.first_character.ensures ∙ c.in_ok-first.was))
    c.split_at.ensures.back (rw c.as_bytes-2.ensures.value at c.word_length.ensures) c.split_at-2.ensures.front c.split_at-2.ensures.back)

pub returns-clause-rest : goal.returns-clause-rest
returns-clause-rest c =
    rest_is c.self.inside.rest.now c.split_at.result.1.now c.split_at-2.result.1.now c.in_ok-first.first c.word_length.result (rw c.as_bytes.ensures.value at (sym c.first_character.ensures ∙ c.in_ok-first.was))
    c.split_at.ensures.back (rw c.as_bytes-2.ensures.value at c.word_length.ensures) c.split_at-2.ensures.back
    ∙ ap behind_word c.self.view_is
