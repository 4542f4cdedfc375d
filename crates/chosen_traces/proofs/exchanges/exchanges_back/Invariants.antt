use Rattle.std.proofs.Common.{◌≡◌, ◌+◌, ◌-◌, length, drop, ◌≤◌}
use Rattle.chosen_traces.specs.Gathered.{pairs_back}
use Rattle.chosen_traces.proofs.exchanges.exchanges_back.Given as goal

-- the exchanges of the last traces
abbrev pub invariant-loop-k : goal.invariant-loop-k
invariant-loop-k l = (l.pairs.items ≡ pairs_back (length l.traces - l.k + 1) (drop (length l.traces - l.k) l.traces)) × (l.initial.room ≤ l.room)
