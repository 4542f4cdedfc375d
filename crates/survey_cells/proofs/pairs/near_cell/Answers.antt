use Rattle.std.specs.Prelude.{◌≡◌, ◌+ℤ◌}
use Rattle.std.proofs.Common.{sym, ap, ◌∙◌, subst, Some, Equal}
use Rattle.cell_positions.specs.Cells.{line_cmp}
use Rattle.survey_cells.specs.declared.cells.SurveyCell.{SurveyCell}
use Rattle.survey_cells.specs.Held.{cell_in}
use Rattle.survey_cells.proofs.FindLemmas.{found, equal_there, sought}
use Rattle.survey_cells.proofs.pairs.near_cell.Goals as goal

pub returns-then-lies_beyond : goal.returns-then-lies_beyond
returns-then-lies_beyond c =
    let cell = c.index-cells-cursor.result in
    let inline = c.args.first.now.inline +ℤ c.args.apart.0 in
    let crossline = c.args.first.now.crossline +ℤ c.args.apart.1 in
    let here = equal_there inline crossline cell (sym c.lies_beyond.ensures ∙ c.if-lies_beyond.true) in
    let there = subst (λ (d : SurveyCell). line_cmp (cell_in d) (sought inline crossline) ≡ Equal) c.index-cells-cursor.is here in
    ap Some c.index-cells-cursor.is ∙ found inline crossline c.args.cells.now c.requires c.args.cursor c.if-cursor-cells.false cell there
