use Rattle.std.proofs.Common.{◌≡◌, true, take}
use Rattle.std.specs.List.{list_all}
use Rattle.edit_overlay.specs.Reads.{HaveAgreed}
use Rattle.declared_frame.specs.Written.{has_samples}
use Rattle.live_volume.proofs.live_volume.LiveVolume.each_has_samples.Given as goal

-- the headers of the traces so far say it
abbrev pub invariant-loop-k : goal.invariant-loop-k
invariant-loop-k l = HaveAgreed l.self.reads → list_all (has_samples l.self.state.volume.head) (take l.k l.self.state.volume.traces) ≡ true
