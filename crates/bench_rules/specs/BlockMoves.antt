-- A block of traces that is moved. Traces are counted from 1.
use Rattle.std.specs.Prelude.{ℕ, ◌+◌, ◌-◌, ◌&&◌, nat_le, min, max, List, ◌++◌, Option, Some, None, if◌then◌else◌}
use Rattle.std.specs.Option.{option_or}
use Rattle.frame_cut.specs.Traces.{count_of}
use Rattle.frame_cut.specs.Volume.{Volume}
use Rattle.bench_rules.specs.declared.refusal.Refusal.{Refusal}
use Rattle.bench_rules.specs.declared.refusal.Refusal.TheVariants as refusals
use Rattle.bench_rules.specs.ManyTraces.{positions}
use Rattle.bench_rules.specs.RangeRefusals.{no_trace, no_trace_from}
use Rattle.bench_rules.specs.Sorted.{with_traces_as}

-- the greatest number that the first of traces a to b can get: one more than the traces that are left without them
abbrev pub last_for_block : Volume → ℕ → ℕ → ℕ
last_for_block v a b = count_of v - (b - a)

-- the first of traces a to b cannot be trace `to`
abbrev pub no_place_for_block : Volume → ℕ → ℕ → ℕ → Option Refusal
no_place_for_block v a b to = if nat_le 1 to && nat_le to (last_for_block v a b) then None else Some (refusals.NoTrace to (last_for_block v a b))

-- the refusal of traces a to b as a block from trace `to` on: of a, then of b, then of `to`
abbrev pub block_refusal : Volume → ℕ → ℕ → ℕ → Option Refusal
block_refusal v a b to = option_or (no_trace v a) (option_or (no_trace_from v a b) (no_place_for_block v a b to))

-- the first position where another trace may stand then: where the block began, or where it begins then
abbrev pub first_moved : ℕ → ℕ → ℕ
first_moved a to = min a to

-- the last such position: where the block ended, or where it ends then
abbrev pub last_moved : ℕ → ℕ → ℕ → ℕ
last_moved a b to = max b (to + (b - a))

-- the traces that stand between the two then, each by its old position: the block in front of those that it passes, or on its way back behind them
abbrev pub block_order : ℕ → ℕ → ℕ → List ℕ
block_order a b to = if nat_le to a then positions a b ++ positions to (a - 1) else positions (b + 1) (to + (b - a)) ++ positions a b

-- the file's bytes with traces a to b, as one block, out, and in again so that the first of them is trace `to`
abbrev pub bytes_after_block_move : Volume → ℕ → ℕ → ℕ → List ℕ
bytes_after_block_move v a b to = with_traces_as v (first_moved a to) (last_moved a b to) (block_order a b to)
