use Rattle.std.proofs.Common.{Bool, sym, ap, ◌∙◌}
use Rattle.cell_positions.specs.Shared.{shared_told, shared_of}
use Rattle.survey_cells.proofs.WholeLemmas.{shared_are}
use Rattle.survey_cells.proofs.shared.shared_positions.Goals as goal

pub returns-clause-shared : goal.returns-clause-shared
returns-clause-shared c = λ fs are.
    c.tell.ensures ∙ ap shared_told c.in_ok-pairs.ensures.pairs ∙ shared_are fs c.args.cells.items are ∙ ap (λ (b : Bool). shared_of b fs) (sym c.if-shots.false)
