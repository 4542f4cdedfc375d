use Rattle.std.proofs.Common.{◌≡◌, ◌∙◌, ◌∷◌, sym, ap}
use Rattle.script_words.specs.Words.{words_of, behind_word}
use Rattle.script_words.proofs.LineLemmas.{no_text, no_words, note, read_ok, read_err}
use Rattle.script_words.proofs.parse.parse_line.Goals as goal

pub returns-in_default-clause-read : goal.returns-in_default-clause-read
returns-in_default-clause-read c = no_text c.args.floats c.args.traces c.args.line.now c.in_default.ensures.cases.0

pub returns-in-None-clause-read : goal.returns-in-None-clause-read
returns-in-None-clause-read c =
    let is : c.new-words.result ≡ c.args.line.now = c.new-words.ensures ∙ c.in-Ok.ensures.cases.0 in
    no_words c.args.floats c.args.traces c.args.line.now c.in-Ok.ensures.cases.1 (rw is at c.in-None.ensures.none)

pub returns-in-Some-clause-read : goal.returns-in-Some-clause-read
returns-in-Some-clause-read c =
    let is : c.new-words.result ≡ c.args.line.now = c.new-words.ensures ∙ c.in-Ok.ensures.cases.0 in
    let words : words_of c.args.line.now ≡ c.in-Some.word.now ∷ words_of c.next.new.self = rw is at c.in-Some.ensures.some in
    note c.args.floats c.args.traces c.args.line.now c.in-Some.word.now c.next.new.self _ c.in-Ok.ensures.cases.1 words (rw c.as_bytes.ensures.value at (sym c.starts_with.ensures.value ∙ c.if-starts_with.true))

pub returns-in_err-command-in-Some-2-clause-read : goal.returns-in_err-command-in-Some-2-clause-read
returns-in_err-command-in-Some-2-clause-read c =
    let is : c.new-words.result ≡ c.args.line.now = c.new-words.ensures ∙ c.in-Ok.ensures.cases.0 in
    let words : words_of c.args.line.now ≡ c.in-Some.word.now ∷ words_of c.next.new.self = rw is at c.in-Some.ensures.some in
    read_err c.args.floats c.args.traces c.args.line.now c.in-Some.word.now c.next.new.self _ c.in-Ok.ensures.cases.1 words c.in_err-command-in-Some-2.field-0.0 c.from_residual.result
    (rw c.as_bytes.ensures.value at (sym c.starts_with.ensures.value ∙ c.if-starts_with.false)) (c.in-Some.ensures.rest ∙ ap behind_word is) c.from_residual.ensures.1 c.in_err-command-in-Some-2.ensures.read

pub returns-in_ok-command-in-Some-2-clause-read : goal.returns-in_ok-command-in-Some-2-clause-read
returns-in_ok-command-in-Some-2-clause-read c =
    let is : c.new-words.result ≡ c.args.line.now = c.new-words.ensures ∙ c.in-Ok.ensures.cases.0 in
    let words : words_of c.args.line.now ≡ c.in-Some.word.now ∷ words_of c.next.new.self = rw is at c.in-Some.ensures.some in
    read_ok c.args.floats c.args.traces c.args.line.now c.in-Some.word.now c.next.new.self _ c.in-Ok.ensures.cases.1 words c.in_ok-command-in-Some-2.field-0
    (rw c.as_bytes.ensures.value at (sym c.starts_with.ensures.value ∙ c.if-starts_with.false)) (c.in-Some.ensures.rest ∙ ap behind_word is) c.in_ok-command-in-Some-2.ensures.read
