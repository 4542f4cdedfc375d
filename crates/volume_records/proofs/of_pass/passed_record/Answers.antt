use Rattle.std.proofs.Common.{ℕ, List, ◌∙◌, ap, ap₂, sym}
use Rattle.frame_cut.specs.declared.file_head.Head.{Head}
use Rattle.trace_record.specs.OfTrace.{record_of}
use Rattle.volume_records.proofs.SeenLemmas.{geometry_in_view}
use Rattle.volume_records.proofs.of_pass.passed_record.Goals as goal

pub returns : goal.returns
returns c =
    let m = c.args.fields.now in
    let view = c.shown.result in
    let same = c.requires.fields ∙ ap (λ (h : Head). h.extensions) (sym c.shown.ensures.head) in
    c.record_of.ensures (geometry_in_view view m c.geometry_stands.ensures same)
    ∙ ap₂ (λ (h : Head) (t : List ℕ). record_of h m.pairs t) c.shown.ensures.head c.shown.ensures.bytes
