use Rattle.live_volume.proofs.HeldLemmas.{held_again, looked_at}
use Rattle.live_volume.proofs.live_volume.LiveVolume.swapped.Goals as goal

pub invariant_of-self : goal.invariant_of-self
invariant_of-self c = held_again c.self.inside c.swapped_bytes.new.overlay _ c.swapped_bytes.ensures.seen c.self.invariant

pub returns-clause-seen : goal.returns-clause-seen
returns-clause-seen c = rw (← c.self.view_is) (looked_at c.self.inside c.swapped_bytes.new.overlay _ c.swapped_bytes.ensures.seen)

pub returns-clause-none : goal.returns-clause-none
returns-clause-none c = rw (← c.self.view_is) c.swapped_bytes.ensures.none

pub returns-clause-inside : goal.returns-clause-inside
returns-clause-inside c = rw (← c.self.view_is) c.swapped_bytes.ensures.inside

pub returns-clause-err : goal.returns-clause-err
returns-clause-err c = rw (← c.self.view_is) c.swapped_bytes.ensures.err
