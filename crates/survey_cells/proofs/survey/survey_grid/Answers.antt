use Rattle.std.specs.Prelude.{◌≡◌, Some, None}
use Rattle.std.proofs.Common.{sym, ap, ◌∙◌}
use Rattle.line_problems.specs.LineSpans.{span_of}
use Rattle.cell_positions.specs.Steps.{inline_span_of, crossline_span_of}
use Rattle.survey_cells.proofs.WholeLemmas.{no_inlines, no_crosslines, survey_is}
use Rattle.survey_cells.proofs.survey.survey_grid.Goals as goal

pub returns-in_default-clause-grid : goal.returns-in_default-clause-grid
unfolding inline_span_of
returns-in_default-clause-grid c = λ fs are inlines crosslines.
    let none : inline_span_of fs ≡ None = sym (c.in_ok-inline.ensures.span ∙ ap span_of inlines) ∙ c.in_default.is in
    no_inlines fs none

pub returns-in_default-2-clause-grid : goal.returns-in_default-2-clause-grid
unfolding crossline_span_of
returns-in_default-2-clause-grid c = λ fs are inlines crosslines.
    let none : crossline_span_of fs ≡ None = sym (c.in_ok-crossline.ensures.span ∙ ap span_of crosslines) ∙ c.in_default-2.is in
    no_crosslines fs none

pub returns-clause-grid : goal.returns-clause-grid
unfolding inline_span_of crossline_span_of
returns-clause-grid c = λ fs are inlines crosslines.
    let one : inline_span_of fs ≡ Some c.in-Some.inline = sym (c.in_ok-inline.ensures.span ∙ ap span_of inlines) ∙ c.in-Some.is in
    let other : crossline_span_of fs ≡ Some c.in-Some-2.crossline = sym (c.in_ok-crossline.ensures.span ∙ ap span_of crosslines) ∙ c.in-Some-2.is in
    ap Some c.in_ok-grid.ensures.grid ∙ survey_is fs c.args.cells.now are c.in-Some.inline c.in-Some-2.crossline one other
