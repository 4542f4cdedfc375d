use Rattle.std.proofs.Common.{◌∙◌, sym, ap}
use Rattle.script_words.specs.Numbers.{place_of_word}
use Rattle.script_words.proofs.PlaceLemmas.{with_extension, begins}
use Rattle.script_words.proofs.fields.place.Goals as goal

pub returns-in-Some : goal.returns-in-Some
returns-in-Some c =
    c.place_from.ensures
    ∙ with_extension c.as_bytes.result.now c.in_ok-text.text.now c.in-Some.extension.now c.in-Some.rest.now (sym (begins c.as_bytes.result.now 64) ∙ c.in_ok-text.ensures.cases.0) c.in_ok-text.ensures.cases.1
    c.in-Some.ensures.some c.in-Some.ensures.front c.in-Some.ensures.back
    ∙ ap place_of_word c.as_bytes.ensures.value
