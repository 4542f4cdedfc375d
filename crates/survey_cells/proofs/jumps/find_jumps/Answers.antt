use Rattle.std.specs.Prelude.{◌+◌, ◌++◌}
use Rattle.std.proofs.Common.{ap, ap₂, ◌∙◌, List}
use Rattle.cell_positions.specs.declared.trace_pair.TracePair.{TracePair}
use Rattle.cell_positions.specs.InOrder.{in_order}
use Rattle.cell_positions.specs.Jumps.{trace_pair_cmp, told_of}
use Rattle.survey_cells.specs.Along.{held_along}
use Rattle.survey_cells.proofs.PairOrderLemmas.{sorted_pairs}
use Rattle.survey_cells.proofs.jumps.find_jumps.Goals as goal

pub returns-clause-jumps : goal.returns-clause-jumps
returns-clause-jumps c =
    let a = held_along c.args.cells.now c.args.inlines in
    let b = held_along c.args.cells.now c.args.crosslines in
    let items = c.in_ok-others.ensures.jumps ∙ ap (λ (l : List TracePair). l ++ b.1) (c.in_ok-pairs.ensures.jumps ∙ ap (λ (l : List TracePair). l ++ a.1) c.new-traces.ensures.items) in
    c.tell.ensures
    ∙ ap₂ told_of (ap₂ (λ m n. m + n) c.in_ok-pairs.ensures.pairs c.in_ok-others.ensures.pairs)
    (sorted_pairs _ _ c.sort_unstable.ensures.permutation c.sort_unstable.ensures.sorted ∙ ap (in_order trace_pair_cmp) items)
