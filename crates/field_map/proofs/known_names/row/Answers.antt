use Rattle.field_map.proofs.RowLemmas.{field_of_row}
use Rattle.field_map.proofs.known_names.row.Goals as goal

pub returns : goal.returns
returns c = rw c.copied.ensures (field_of_row c.args.table.now c.args.k c.get.result c.get.ensures.lookup)
