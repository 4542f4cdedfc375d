use Rattle.std.proofs.Common.{◌+◌, ◌-◌, ◌<◌, ℕ, [], length, get_or, subst, sym}
use Rattle.std.specs.Prelude.{slice_index_or}
use Rattle.frame_cut.specs.Cuts.{IsTrace}
use Rattle.frame_cut.specs.Splice.{splice}
use Rattle.edit_overlay.specs.CountedVolume.{CountedVolume}
use Rattle.edit_overlay.specs.Reads.{HaveAgreed}
use Rattle.edit_overlay.proofs.StandingLemmas.{is_sure_if}
use Rattle.edit_overlay.proofs.overlay.Overlay.prepare_put_over.Goals as goal

pub prepare_put_over-requires-clause-whole : goal.prepare_put_over-requires-clause-whole
prepare_put_over-requires-clause-whole g c =
    let places = c.args.places.now in
    let bytes = c.args.bytes.now in
    let a = c.args.a in
    λ sure k inside. subst (λ (o : CountedVolume g.row.T.Denot). (k : ℕ) → k < length places → HaveAgreed o.reads → IsTrace o.volume.head (splice (slice_index_or o.volume.traces (a - 1 + k) []) (get_or places k 0) (length bytes) bytes))
    (sym c.self.view_is) c.requires.whole k inside (is_sure_if c.self.inside.laid.store.loaded.standing sure)
