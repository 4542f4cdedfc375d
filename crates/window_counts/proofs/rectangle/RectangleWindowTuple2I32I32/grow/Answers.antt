use Rattle.std.proofs.Common.{◌+◌, ◌/◌, ◌%◌, ap, length}
use Rattle.std.proofs.Math.Nat.{div-lt_iff_lt-mul}
use Rattle.window_counts.specs.Places.{numbers_in, interval_key}
use Rattle.window_counts.specs.PlaceLaws.{has_columns}
use Rattle.window_counts.proofs.RowsLemmas.{row_key-more}
use Rattle.window_counts.proofs.rectangle.RectangleWindowTuple2I32I32.grow.Goals as goal

pub returns-clause-kept : goal.returns-clause-kept
returns-clause-kept c p h =
    let w = c.args.self.now in
    let more = numbers_in w.rows.added in
    let low = (div-lt_iff_lt-mul (has_columns (w.rows.count + length more) w.columns p h)).1 h in
    rw (c.add_row.ensures.lowest, c.add_row.ensures.count, c.add_row.ensures.added, c.add_row.ensures.crossline, c.add_row.ensures.columns) (ap (λ i. (i, interval_key w.crossline (p % w.columns))) (row_key-more w.rows.lowest w.rows.count more _ (p / w.columns) low))
