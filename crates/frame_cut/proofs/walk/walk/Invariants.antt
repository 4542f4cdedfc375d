use Rattle.std.proofs.Common.{◌≡◌, ◌≤◌, ◌-◌, ◌*◌, length}
use Rattle.std.specs.Option.{ForSome}
use Rattle.frame_cut.specs.Walk.{AreWhole, IsFixedLength}
use Rattle.frame_cut.proofs.walk.walk.Given as goal

abbrev pub invariant-traces : goal.invariant-traces
invariant-traces l =
    AreWhole l.bytes l.head l.limits l.extents.items l.at × (l.at ≤ l.end) × (l.end ≡ length l.bytes - 3200 * l.head.trailer) × ForSome l.fixed (IsFixedLength l.head) × (l.initial.room ≤ l.room)

abbrev pub decreases-traces : goal.decreases-traces
decreases-traces l = l.end - l.at
