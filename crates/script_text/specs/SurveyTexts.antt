-- What is printed for the grid of a survey in one line.
use Rattle.std.specs.Prelude.{ℕ, ℤ, List, [], ◌∷◌, decimal, codes, Option, Some, None}
use Rattle.std.specs.Fmt.{signed_decimal}
use Rattle.line_problems.specs.declared.spans.LineSpan.{LineSpan}
use Rattle.position_differences.specs.declared.difference.Difference.{Difference}
use Rattle.cell_positions.specs.declared.survey.SurveyGrid.{SurveyGrid}
use Rattle.script_text.specs.ReportTexts.{fraction_text}
use Rattle.line_texts.specs.Lines.{with_blanks}

-- the step from a line to the next; one line has none
abbrev pub step_text : Option ℤ → List ℕ
step_text None = codes "none"
step_text (Some s) = signed_decimal s

-- the first line, the last one and the step
abbrev pub span_text : LineSpan → List ℕ
span_text s = with_blanks (signed_decimal s.first ∷ signed_decimal s.last ∷ codes "step" ∷ step_text s.step ∷ [])

-- how far neighbouring cells stand apart in x and in y; one word where there are none
abbrev pub difference_text : Option Difference → List ℕ
difference_text None = codes "none"
difference_text (Some d) = with_blanks (fraction_text d.x ∷ fraction_text d.y ∷ [])

-- a grid
abbrev pub grid_text : SurveyGrid → List ℕ
grid_text g = with_blanks
    (codes "survey inline" ∷ span_text g.inline
    ∷ codes "crossline" ∷ span_text g.crossline
    ∷ codes "along_inline" ∷ difference_text g.along_inline
    ∷ codes "along_crossline" ∷ difference_text g.along_crossline
    ∷ codes "cells" ∷ decimal g.cells
    ∷ codes "of" ∷ decimal g.full ∷ [])

-- the grid of a survey, where there are traces
abbrev pub survey_text : Option SurveyGrid → List ℕ
survey_text None = codes "survey none"
survey_text (Some g) = grid_text g
