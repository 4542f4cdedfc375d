use Rattle.std.proofs.Common.{◌≡◌, ◌+◌, ◌++◌, length, drop, ◌≤◌}
use Rattle.std.specs.Vec.Iter.{into_iter_items}
use Rattle.header_answers.specs.Seen.{shown_of}
use Rattle.header_answers.proofs.all_extremes.shown.Given as goal

-- what was found so far, and what will be of the names that are left
abbrev pub invariant-loop-name : goal.invariant-loop-name
invariant-loop-name l = record {
  each : l.at + length (into_iter_items l.name-iterator) ≡ length l.seen;
  found : l.found.items ++ shown_of (into_iter_items l.name-iterator) (drop l.at l.seen) ≡ shown_of (into_iter_items l.initial.name-iterator) l.seen;
  memory : l.initial.room ≤ l.room;
}
