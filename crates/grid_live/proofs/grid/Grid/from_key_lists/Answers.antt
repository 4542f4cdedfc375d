use Rattle.grid_live.proofs.LoadLemmas.{Same-loaded, CellsFit-loaded}
use Rattle.grid_live.proofs.grid.Grid.from_key_lists.Goals as goal

pub invariant_of-result : goal.invariant_of-result
invariant_of-result c =
    record { fitting = CellsFit-loaded c.in_ok-cells.cells c.in_ok-keys.keys.items c.in_ok-cells.ensures.numbers c.in_ok-keys.ensures.fit }

pub returns-clause-same : goal.returns-clause-same
returns-clause-same c =
    Same-loaded (record { records = c.len.result; cells = c.in_ok-cells.cells; inlines = c.in_ok-inlines.inlines; crosslines = c.in_ok-crosslines.crosslines; fitting = CellsFit-loaded c.in_ok-cells.cells c.in_ok-keys.keys.items c.in_ok-cells.ensures.numbers c.in_ok-keys.ensures.fit }) c.args.records.now c.len.ensures
    (rw c.in_ok-keys.ensures.keys at c.in_ok-cells.ensures.numbers) (rw c.in_ok-keys-2.ensures.keys at c.in_ok-inlines.ensures.numbers) (rw c.in_ok-keys-3.ensures.keys at c.in_ok-crosslines.ensures.numbers)
