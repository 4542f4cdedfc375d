use Rattle.std.proofs.Common.{◌≡◌, ◌∙◌, ◌∷◌, [], ◌++◌, ap, arith}
use Rattle.script_words.specs.HeaderCommands.{is_falling}
use Rattle.script_words.proofs.SortLemmas.{falling_step}
use Rattle.script_words.proofs.sort_command.falling.Goals as goal

pub words-preserved : goal.words-preserved
words-preserved c =
    let pushed : c.push.new.self.items ≡ c.words.falling.items ++ c.is_falling.result ∷ [] = rw c.in-Ok.ensures.ok at c.push.ensures.items in
    (rw pushed (falling_step _ _ _ c.in-Some.word.now c.words.falling.items c.is_falling.result c.words.invariant.0 c.in-Some.ensures.some (c.is_falling.ensures ∙ ap is_falling c.as_bytes.ensures.value)), grind arith)
