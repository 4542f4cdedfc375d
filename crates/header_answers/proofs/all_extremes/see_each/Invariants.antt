use Rattle.std.proofs.Common.{◌≡◌, ◌++◌, length, take, drop}
use Rattle.trace_view.specs.Shown.{bytes_of, head_of}
use Rattle.header_answers.specs.Seen.{seen_each}
use Rattle.header_answers.proofs.all_extremes.see_each.Given as goal

-- the first ones have seen their numbers, and the others are as they were
abbrev pub invariant-loop-i : goal.invariant-loop-i
invariant-loop-i l = record {
  each : length l.seen.items ≡ length l.names;
  seen : take l.i l.seen.items ++ seen_each (head_of l.trace) (bytes_of l.trace) (drop l.i l.names) (drop l.i l.seen.items) ≡ seen_each (head_of l.trace) (bytes_of l.trace) l.names l.initial.seen.items;
}
