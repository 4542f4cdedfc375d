use Rattle.std.proofs.Common.{◌+◌, ◌-◌, ◌/◌, ◌<◌, ℕ, [], length, subst, sym}
use Rattle.std.specs.Prelude.{slice_index_or}
use Rattle.frame_cut.specs.Cuts.{IsTrace}
use Rattle.frame_cut.specs.Splice.{splice}
use Rattle.trace_store.specs.Each.{part_of}
use Rattle.edit_overlay.specs.CountedVolume.{CountedVolume}
use Rattle.edit_overlay.specs.Reads.{HaveAgreed}
use Rattle.edit_overlay.proofs.StandingLemmas.{is_sure_if}
use Rattle.edit_overlay.proofs.overlay.Overlay.prepare_put_each.Goals as goal

pub prepare_put_each-requires-clause-whole : goal.prepare_put_each-requires-clause-whole
prepare_put_each-requires-clause-whole g c =
    let bytes = c.args.bytes.now in
    let a = c.args.a in
    let size = c.args.size in
    λ sure k inside. subst (λ (o : CountedVolume g.row.T.Denot). (k : ℕ) → k < length bytes / size → HaveAgreed o.reads → IsTrace o.volume.head (splice (slice_index_or o.volume.traces (a - 1 + k) []) c.args.at size (part_of bytes size k)))
    (sym c.self.view_is) c.requires.whole k inside (is_sure_if c.self.inside.laid.store.loaded.standing sure)
