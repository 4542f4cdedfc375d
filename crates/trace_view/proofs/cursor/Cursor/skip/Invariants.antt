use Rattle.std.proofs.Common.{◌≡◌, ◌≤◌, ◌++◌, length, drop}
use Rattle.trace_view.proofs.cursor.Cursor.skip.Given as goal

abbrev pub invariant-loop-self : goal.invariant-loop-self
invariant-loop-self l = record {
  inside : l.left ≤ length (l.self-inside.front.now ++ l.self-inside.stretches);
  skipped : drop l.left (l.self-inside.front.now ++ l.self-inside.stretches) ≡ drop l.fn.count l.fn.self;
}

abbrev pub decreases-loop-self : goal.decreases-loop-self
decreases-loop-self l = length l.self-inside.stretches
