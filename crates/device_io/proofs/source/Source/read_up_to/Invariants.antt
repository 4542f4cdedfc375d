use Rattle.std.proofs.Common.{◌≡◌, ◌≤◌, ◌+◌, ◌-◌, vec_len}
use Rattle.std.specs.Io.KnownBytes.{Consumes}
use Rattle.device_io.proofs.source.Source.read_up_to.Given as goal

abbrev pub invariant-turns : goal.invariant-turns
invariant-turns g l =
    (vec_len l.bytes ≤ l.most + 1)
    × (l.self.failures ≡ l.initial.self.failures)
    × (l.initial.room ≤ l.room)
    × Consumes (g.R.Read.remaining l.initial.self.inner) (g.R.Read.remaining l.self.inner) l.bytes.items

abbrev pub decreases-turns : goal.decreases-turns
decreases-turns g l = l.most + 1 - vec_len l.bytes
