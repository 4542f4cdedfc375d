use Rattle.live_volume.proofs.HeldLemmas.{held_again, looked_at}
use Rattle.live_volume.proofs.live_volume.LiveVolume.computed.Goals as goal

pub invariant_of-self : goal.invariant_of-self
invariant_of-self c = held_again c.self.inside c.computed_bytes.new.overlay _ c.computed_bytes.ensures.seen c.self.invariant

pub returns-clause-seen : goal.returns-clause-seen
returns-clause-seen c = rw (← c.self.view_is) (looked_at c.self.inside c.computed_bytes.new.overlay _ c.computed_bytes.ensures.seen)
