-- Rows, and what a kept one shows.
use Rattle.std.specs.Prelude.{ℕ, ℤ, Bool, List, [], ◌∷◌, Option, Some, None}
use Rattle.num_order.specs.declared.order.Order.TheVariants.{Little}
use Rattle.num_order.specs.Number.{num}
use Rattle.bench_rules.specs.declared.row.Row.{Row}
use Rattle.time_slice.specs.declared.kept_rows.KeptRow.{KeptRow}

-- the position and the sample that it holds, with or without a sign
abbrev pub pair_of : Bool → KeptRow → ℕ × ℤ
pair_of signed r = (r.position, num Little (record { size = 8; signed = signed }) r.sample)

-- the row of a trace of this inline and crossline at position p, where it has the sample
abbrev pub row_at : ℕ → ℤ × ℤ → Option ℤ → List Row
row_at p cell None = []
row_at p cell (Some v) = record { inline = cell.0; crossline = cell.1; position = p; value = v } ∷ []
