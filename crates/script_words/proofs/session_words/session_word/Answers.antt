use Rattle.std.proofs.Common.{◌∙◌, sym, ap}
use Rattle.script_words.specs.SessionWords.{word_to_session}
use Rattle.script_words.specs.Words.{words_of}
use Rattle.script_words.proofs.LineLemmas.{says_nothing, says_by_words}
use Rattle.script_words.proofs.session_words.session_word.Goals as goal

pub returns-in-Err : goal.returns-in-Err
returns-in-Err c = sym (says_nothing c.args.line.now c.in-Err.ensures.cases.0)

pub returns-in-Ok : goal.returns-in-Ok
returns-in-Ok c =
    c.said_by.ensures ∙ ap (λ text. word_to_session (words_of text)) (c.new.ensures ∙ c.in-Ok.ensures.cases.0) ∙ sym (says_by_words c.args.line.now c.in-Ok.ensures.cases.1)
