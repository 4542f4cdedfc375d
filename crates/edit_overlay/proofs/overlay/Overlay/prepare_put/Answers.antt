use Rattle.std.proofs.Common.{length, subst, sym}
use Rattle.frame_cut.specs.Cuts.{IsTrace}
use Rattle.frame_cut.specs.Splice.{splice}
use Rattle.frame_cut.specs.Traces.{trace_at}
use Rattle.edit_overlay.specs.CountedVolume.{CountedVolume}
use Rattle.edit_overlay.specs.Reads.{HaveAgreed}
use Rattle.edit_overlay.proofs.StandingLemmas.{is_sure_if}
use Rattle.edit_overlay.proofs.overlay.Overlay.prepare_put.Goals as goal

pub prepare_put-requires-clause-whole : goal.prepare_put-requires-clause-whole
prepare_put-requires-clause-whole g c =
    let bytes = c.args.bytes.now in
    λ sure. subst (λ (o : CountedVolume g.row.T.Denot). HaveAgreed o.reads → IsTrace o.volume.head (splice (trace_at o.volume c.args.p) c.args.at (length bytes) bytes)) (sym c.self.view_is) c.requires.whole
    (is_sure_if c.self.inside.laid.store.loaded.standing sure)
