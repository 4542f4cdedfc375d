use Rattle.std.proofs.Common.{◌≡◌, ◌∷◌, [], ◌++◌, arith}
use Rattle.script_words.proofs.ListLemmas.{fields_step}
use Rattle.script_words.proofs.header_commands.fields.Goals as goal

pub words-preserved : goal.words-preserved
words-preserved c =
    let pushed : c.push.new.self.items ≡ c.words.fields.items ++ c.in_ok-at.at ∷ [] = rw c.in-Ok.ensures.ok at c.push.ensures.items in
    (rw pushed (fields_step _ _ _ c.in-Some.word.now c.in_ok-at.at c.words.fields.items c.words.invariant.0 c.in-Some.ensures.some c.in_ok-at.ensures.read), grind arith)
