use Rattle.std.proofs.Common.{◌≡◌, ◌≤◌, ◌-◌, length, take, drop}
use Rattle.trace_view.proofs.cursor.Cursor.read.Given as goal

abbrev pub invariant-loop-done : goal.invariant-loop-done
invariant-loop-done l = record {
  within : l.done ≤ length l.out;
  size : length l.out ≡ length l.fn.out;
  left : l.self ≡ drop l.done l.fn.self;
  read : take l.done l.out ≡ take l.done l.fn.self;
}

abbrev pub decreases-loop-done : goal.decreases-loop-done
decreases-loop-done l = length l.out - l.done
