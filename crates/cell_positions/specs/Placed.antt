-- Where traces stand.
use Rattle.std.specs.Prelude.{ℕ, pos, ◌-◌, ◌&&◌, List, map, slice_get, Option, Some, None, option_and_then, if◌then◌else◌}
use Rattle.std.specs.Ordering.{int_eq}
use Rattle.key_counts.specs.declared.ratio.Ratio.{Ratio}
use Rattle.trace_record.specs.Facts.{Facts}
use Rattle.position_differences.specs.declared.difference.Position.{Position}

-- a position, which is none where x and y are both 0
abbrev pub standing_at : Ratio → Ratio → Option Position
standing_at x y = if int_eq x.num (pos 0) && int_eq y.num (pos 0) then None else Some (record { x = x; y = y })

-- that of a trace
abbrev pub position_of : Facts → Option Position
position_of f = standing_at f.x f.y

-- those of all traces
abbrev pub positions_of : List Facts → List (Option Position)
positions_of fs = map position_of fs

-- that of trace n, counted from 1
abbrev pub position_at : List (Option Position) → ℕ → Option Position
position_at ps n = option_and_then (λ p. p) (slice_get ps (n - 1))
