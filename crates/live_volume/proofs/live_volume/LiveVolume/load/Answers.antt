use Rattle.std.proofs.Common.{◌≡◌, ◌∙◌, sym, ap, subst}
use Rattle.frame_cut.specs.Cuts.{IsCut}
use Rattle.frame_cut.specs.Volume.{Volume, bytes_of}
use Rattle.live_volume.proofs.HeldLemmas.{records_again}
use Rattle.live_volume.proofs.MeasuredLemmas.{frame_of_cut, measured_of_cut}
use Rattle.live_volume.proofs.live_volume.LiveVolume.load.Goals as goal

pub invariant_of-result : goal.invariant_of-result
invariant_of-result g c =
    let is : c.in-Ok-with_records.overlay.volume ≡ c.in_ok-loading.loading.volume = c.in-Ok-with_records.ensures.volume in
    let cut = subst (λ (u : Volume). IsCut (bytes_of u) c.args.reading c.args.limits u) (sym is) c.in_ok-loading.ensures.cut in
    let own = records_again c.in_ok-loading.loading.volume c.in-Ok-with_records.overlay.volume c.in-Ok.fields.pairs _ is c.in-Ok-with_records.ensures.records in
    record {
      cut = λ sure. cut;
      frame = frame_of_cut c.args.reading c.args.limits c.in-Ok-with_records.overlay.volume cut;
      prepared = c.in-Ok-with_records.ensures.prepared ∙ sym is;
      extensions = c.in-Ok.ensures.extensions ∙ ap (λ h. h.extensions) c.head.ensures ∙ ap (λ (u : Volume). u.head.extensions) (sym is);
      records = λ sure. own;
      measured = measured_of_cut c.args.reading c.args.limits c.in-Ok-with_records.overlay.volume c.in-Ok.fields.pairs _ cut own;
      reports = c.in-Ok-with_records.ensures.reports;
    }
