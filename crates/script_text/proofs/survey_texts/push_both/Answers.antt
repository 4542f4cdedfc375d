use Rattle.std.proofs.Common.{codes}
use Rattle.script_text.specs.ReportTexts.{fraction_text}
use Rattle.line_texts.proofs.TextLemmas.{both_parts}
use Rattle.script_text.proofs.survey_texts.push_both.Goals as goal

pub returns-clause-text : goal.returns-clause-text
returns-clause-text c =
    let d = c.args.difference in
    rw (c.push_fraction-2.ensures.text, c.push.ensures, c.push_fraction.ensures.text)
    (both_parts c.args.line.now (fraction_text d.x) (codes " ") (fraction_text d.y))
