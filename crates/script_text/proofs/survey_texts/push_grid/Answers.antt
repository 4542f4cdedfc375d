use Rattle.std.proofs.Common.{codes, decimal}
use Rattle.script_text.specs.SurveyTexts.{difference_text, span_text}
use Rattle.line_texts.proofs.TextLemmas.{grid_parts}
use Rattle.script_text.proofs.survey_texts.push_grid.Goals as goal

pub returns-clause-text : goal.returns-clause-text
returns-clause-text c =
    let g = c.args.grid in
    rw (c.push_numbered-2.ensures.text, c.push_numbered.ensures.text, c.push_difference-2.ensures.text, c.push_difference.ensures.text, c.push_span-2.ensures.text, c.push_span.ensures.text, c.requires)
    (grid_parts (codes "survey inline ") (span_text g.inline) (codes " crossline ") (span_text g.crossline) (codes " along_inline ") (difference_text g.along_inline)
    (codes " along_crossline ") (difference_text g.along_crossline) (codes " cells ") (decimal g.cells) (codes " of ") (decimal g.full))
