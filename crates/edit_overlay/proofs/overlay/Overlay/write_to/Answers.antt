use Rattle.std.proofs.Common.{IsTrue, IfErr, ap, subst, ◌∙◌}
use Rattle.std.specs.Prelude.{IfSome, IsSome}
use Rattle.frame_cut.specs.Volume.{bytes_of}
use Rattle.edit_overlay.specs.CountedVolume.{CountedVolume, with_reads}
use Rattle.edit_overlay.specs.Saving.{Saves}
use Rattle.edit_overlay.specs.Reads.{Follow, IsFaultOfLook}
use Rattle.edit_overlay.specs.Standings.{reads_in}
use Rattle.edit_overlay.proofs.HeldLemmas.{held_reread, shown_reread}
use Rattle.edit_overlay.proofs.SavingLemmas.{unread_on_disk, unread_told}
use Rattle.edit_overlay.proofs.StandingLemmas.{reads_follow, sure_is}
use Rattle.edit_overlay.proofs.overlay.Overlay.write_to.Goals as goal

pub invariant_of-self : goal.invariant_of-self
invariant_of-self g c = held_reread c.self.inside c.write_volume.new.store c.write_volume.ensures.same c.self.invariant

pub returns-clause-same : goal.returns-clause-same
returns-clause-same g c =
    let t = c.write_volume.new.store in
    shown_reread c.self.inside t c.write_volume.ensures.same ∙ ap (λ (o : CountedVolume g.row.T.Denot). with_reads o (reads_in t.loaded)) c.self.view_is

pub returns-clause-reads : goal.returns-clause-reads
returns-clause-reads g c =
    subst (λ (o : CountedVolume g.row.T.Denot). Follow o.reads (reads_in c.write_volume.new.store.loaded)) c.self.view_is (reads_follow c.self.inside.laid.store.loaded c.write_volume.new.store.loaded c.write_volume.ensures.same.loaded)

pub returns-clause-saved : goal.returns-clause-saved
returns-clause-saved g c =
    λ sure. subst (λ (o : CountedVolume g.row.T.Denot). Saves (g.W.Write.contents c.args.writer.now.inner) (g.W.Write.contents c.write_volume.new.writer.inner) (bytes_of o.volume) c.write_volume.result) c.self.view_is
    (c.write_volume.ensures.saved (sure_is c.write_volume.new.store.loaded.standing sure))

pub returns-clause-read : goal.returns-clause-read
returns-clause-read g c =
    subst (λ (o : CountedVolume g.row.T.Denot). IfErr c.write_volume.result (λ fault. IsSome fault.read → IsTrue o.loaded.on_disk)) c.self.view_is
    (unread_on_disk c.write_volume.result c.self.inside.laid.store.loaded c.write_volume.new.store.loaded c.write_volume.ensures.read)

pub returns-clause-fault : goal.returns-clause-fault
returns-clause-fault g c =
    subst (λ (o : CountedVolume g.row.T.Denot). IfErr c.write_volume.result (λ fault. IfSome fault.read (IsFaultOfLook o.reads (reads_in c.write_volume.new.store.loaded)))) c.self.view_is
    (unread_told c.write_volume.result c.self.inside.laid.store.loaded c.write_volume.new.store.loaded c.write_volume.ensures.read)
