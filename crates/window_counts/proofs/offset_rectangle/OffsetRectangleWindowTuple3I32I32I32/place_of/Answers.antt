use Rattle.std.proofs.Common.{sym}
use Rattle.window_counts.specs.Places.{numbers_in, row_place, row_key}
use Rattle.window_counts.specs.PlaceLaws.{rows_placed, cell_placed}
use Rattle.window_counts.proofs.offset_rectangle.OffsetRectangleWindowTuple3I32I32I32.place_of.Goals as goal

pub offset_at-requires : goal.offset_at-requires
offset_at-requires c =
    let r = c.args.self.now.cells.rows in
    let more = numbers_in r.added in
    ((cell_placed _ (row_place r.lowest r.count more) (row_key r.lowest r.count more) (rows_placed r.lowest r.count more r.fit) c.args.self.now.cells.crossline c.args.self.now.cells.columns).within _ c.in_ok-place.place (sym c.in_ok-place.ensures)).0
