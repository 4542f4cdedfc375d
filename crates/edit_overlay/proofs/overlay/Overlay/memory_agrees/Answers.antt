use Rattle.std.proofs.Common.{◌≡◌, false, subst}
use Rattle.edit_overlay.specs.CountedVolume.{CountedVolume}
use Rattle.edit_overlay.specs.Reads.{HaveAgreed}
use Rattle.edit_overlay.proofs.StandingLemmas.{sure_off_disk}
use Rattle.edit_overlay.proofs.overlay.Overlay.memory_agrees.Goals as goal

pub returns : goal.returns
returns g c = subst (λ (o : CountedVolume g.row.T.Denot). o.loaded.on_disk ≡ false → HaveAgreed o.reads) c.self.view_is (sure_off_disk c.self.inside.laid.store.loaded.standing)
