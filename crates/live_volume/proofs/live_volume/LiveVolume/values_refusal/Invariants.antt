use Rattle.live_volume.proofs.ManyTracesLemmas.{IsSoFar}
use Rattle.live_volume.proofs.live_volume.LiveVolume.values_refusal.Given as goal

-- none of the values in front is refused
abbrev pub invariant-loop-k : goal.invariant-loop-k
invariant-loop-k l = IsSoFar l.fn.self l.self l.fn.place l.fn.a l.fn.first l.fn.step l.k
