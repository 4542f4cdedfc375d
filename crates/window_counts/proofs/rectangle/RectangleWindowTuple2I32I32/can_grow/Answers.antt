use Rattle.std.proofs.Common.{arith}
use Rattle.window_counts.proofs.RowsLemmas.{rows_fit}
use Rattle.window_counts.proofs.rectangle.RectangleWindowTuple2I32I32.can_grow.Goals as goal

pub overflow_add-len : goal.overflow_add-len
overflow_add-len c = let fit = rows_fit _ _ _ c.args.self.now.rows.fit in let is = c.len.ensures in omega arith
