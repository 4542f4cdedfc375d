use Rattle.std.proofs.Common.{◌-◌, arith}
use Rattle.live_volume.specs.Held.{records_in}
use Rattle.live_volume.proofs.MeasuredLemmas.{has_header}
use Rattle.live_volume.proofs.live_volume.LiveVolume.stands.Goals as goal

pub returns-clause-headers : goal.returns-clause-headers
returns-clause-headers c =
    rw (← c.self.view_is) (λ p first last. has_header (records_in c.self.inside) c.self.inside.overlay.volume.traces (p - 1) c.self.invariant.measured (omega (arith, first, last)))
