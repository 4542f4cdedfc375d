use Rattle.std.proofs.Common.{◌≡◌, ◌≤◌, ◌-◌, length, take}
use Rattle.std.specs.Io.KnownBytes.{Appends}
use Rattle.device_io.proofs.sink.Sink.write_all.Given as goal

abbrev pub invariant-turns : goal.invariant-turns
invariant-turns g l =
    (l.at ≤ length l.bytes)
    × (l.self.failures ≡ l.initial.self.failures)
    × Appends (g.W.Write.contents l.initial.self.inner) (g.W.Write.contents l.self.inner) (take l.at l.bytes)

abbrev pub decreases-turns : goal.decreases-turns
decreases-turns g l = length l.bytes - l.at
