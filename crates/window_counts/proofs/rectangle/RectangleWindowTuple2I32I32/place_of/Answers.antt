use Rattle.std.proofs.Common.{arith, sym}
use Rattle.window_counts.specs.Places.{numbers_in}
use Rattle.window_counts.specs.PlaceLaws.{within_is, below_area, rows_placed}
use Rattle.window_counts.proofs.rectangle.RectangleWindowTuple2I32I32.place_of.Goals as goal

pub overflow_mul-result : goal.overflow_mul-result
overflow_mul-result c =
    let w = c.args.self.now in
    let row = ((rows_placed w.rows.lowest w.rows.count (numbers_in w.rows.added) w.rows.fit).within _ c.in_ok-row.row (sym c.in_ok-row.ensures)).0 in
    let column = within_is w.columns _ c.in_ok-column.column (sym c.in_ok-column.ensures) in
    let low = below_area c.in_ok-row.row c.in_ok-column.column _ w.columns row column.1 in
    let area = w.fits.area in
    omega arith

pub overflow_add-result : goal.overflow_add-result
overflow_add-result c =
    let w = c.args.self.now in
    let row = ((rows_placed w.rows.lowest w.rows.count (numbers_in w.rows.added) w.rows.fit).within _ c.in_ok-row.row (sym c.in_ok-row.ensures)).0 in
    let column = within_is w.columns _ c.in_ok-column.column (sym c.in_ok-column.ensures) in
    let low = below_area c.in_ok-row.row c.in_ok-column.column _ w.columns row column.1 in
    let area = w.fits.area in
    omega arith
