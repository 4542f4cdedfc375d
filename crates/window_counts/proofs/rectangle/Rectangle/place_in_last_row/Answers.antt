use Rattle.std.proofs.Common.{◌+◌, arith, sym, length}
use Rattle.window_counts.specs.Places.{numbers_in}
use Rattle.window_counts.specs.PlaceLaws.{within_is, below_area}
use Rattle.window_counts.proofs.rectangle.Rectangle.place_in_last_row.Goals as goal

pub overflow_add-result : goal.overflow_add-result
overflow_add-result c =
    let w = c.args.self.now in
    let column = within_is w.columns _ c.in_ok-column.column (sym c.in_ok-column.ensures) in
    let row = c.in_ok-last.ensures in
    let sub = c.checked_sub.ensures in
    let low = below_area c.in_ok-last.last c.in_ok-column.column (w.rows.count + length (numbers_in w.rows.added)) w.columns (let first = c.first_count.ensures in omega arith) column.1 in
    let area = w.fits.area in
    omega arith
