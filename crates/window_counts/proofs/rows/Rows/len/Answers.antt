use Rattle.std.proofs.Common.{ap, arith, length}
use Rattle.window_counts.proofs.RowsLemmas.{rows_fit}
use Rattle.window_counts.proofs.rows.Rows.len.Goals as goal

pub overflow_add-result : goal.overflow_add-result
overflow_add-result c = let fit = rows_fit _ _ _ c.args.self.now.fit in let is = ap length c.added.ensures in omega arith
