use Rattle.std.proofs.Common.{codes, rules, w32, SFits}
use Rattle.std.proofs.lemmas.Int.{to_z-of_z}
use Rattle.std.specs.Fmt.{signed_decimal}
use Rattle.script_text.specs.SurveyTexts.{step_text}
use Rattle.line_texts.proofs.TextLemmas.{span_parts}
use Rattle.script_text.proofs.survey_texts.push_span.Goals as goal

pub returns-clause-text : goal.returns-clause-text
returns-clause-text c =
    let s = c.args.span in
    let first : SFits w32 s.first = search rules in
    let last : SFits w32 s.last = search rules in
    rw (c.push_step.ensures.text, c.push.ensures, c.push_spaced.ensures.text, c.push_numbered.ensures.text, to_z-of_z w32 s.first first, to_z-of_z w32 s.last last)
    (span_parts c.args.line.now c.args.words.now (signed_decimal s.first) (codes " ") (signed_decimal s.last) (codes " step ") (step_text s.step))
