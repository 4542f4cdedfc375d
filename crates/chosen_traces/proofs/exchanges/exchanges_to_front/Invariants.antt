use Rattle.std.proofs.Common.{◌≡◌, take, ◌≤◌}
use Rattle.chosen_traces.specs.Gathered.{pairs_from}
use Rattle.chosen_traces.proofs.exchanges.exchanges_to_front.Given as goal

-- the exchanges of the first traces
abbrev pub invariant-loop-k : goal.invariant-loop-k
invariant-loop-k l = (l.pairs.items ≡ pairs_from 1 (take l.k l.traces)) × (l.initial.room ≤ l.room)
