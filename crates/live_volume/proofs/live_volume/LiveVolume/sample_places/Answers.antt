use Rattle.live_volume.proofs.HeldLemmas.{held_again, looked_at}
use Rattle.live_volume.proofs.live_volume.LiveVolume.sample_places.Goals as goal

pub invariant_of-self : goal.invariant_of-self
invariant_of-self c = held_again c.self.inside c.sample_places.new.overlay _ c.sample_places.ensures.seen c.self.invariant

pub returns-clause-seen : goal.returns-clause-seen
returns-clause-seen c = rw (← c.self.view_is) (looked_at c.self.inside c.sample_places.new.overlay _ c.sample_places.ensures.seen)

pub returns-clause-none : goal.returns-clause-none
returns-clause-none c = rw (← c.self.view_is) c.sample_places.ensures.none

pub returns-clause-places : goal.returns-clause-places
returns-clause-places c = rw (← c.self.view_is) c.sample_places.ensures.places

pub returns-clause-room : goal.returns-clause-room
returns-clause-room c = rw (← c.self.view_is) c.sample_places.ensures.room

pub returns-clause-err : goal.returns-clause-err
returns-clause-err c = rw (← c.self.view_is) c.sample_places.ensures.err
