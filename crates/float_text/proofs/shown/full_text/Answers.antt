use Rattle.float_text.proofs.TextLemmas.{narrow_text, wide_text}
use Rattle.float_text.proofs.shown.full_text.Goals as goal

pub returns-in-Ieee32-clause-is : goal.returns-in-Ieee32-clause-is
returns-in-Ieee32-clause-is c =
    let t = c.format.ensures in
    narrow_text c.args.format c.args.value _ _ c.in-Ieee32.is c.nearest_f64_to_f32.ensures c.requires t.parses t.plain t.word

pub returns-in-Ibm32-clause-is : goal.returns-in-Ibm32-clause-is
returns-in-Ibm32-clause-is c =
    let t = c.format-in-Ibm32.ensures in
    wide_text c.args.format c.args.value _ c.in-Ibm32.is c.requires t.parses t.plain t.word
