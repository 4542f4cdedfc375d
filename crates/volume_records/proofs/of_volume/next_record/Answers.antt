use Rattle.std.proofs.Common.{ℕ, List, ◌+◌, ◌∙◌, ap, length}
use Rattle.frame_cut.specs.declared.file_head.Head.{Head}
use Rattle.trace_record.specs.OfTrace.{record_of}
use Rattle.volume_records.proofs.SeenLemmas.{geometry_in_view, same_extensions, of_view}
use Rattle.volume_records.proofs.of_volume.next_record.Goals as goal

pub returns-clause-record : goal.returns-clause-record
returns-clause-record c =
    let v = c.args.loading.now.volume in
    let p = length c.args.loading.now.payloads + 1 in
    let m = c.args.fields.now in
    let view = c.in-Some.trace in
    let shown = c.in-Some.ensures.trace in
    c.record_of.ensures (geometry_in_view view m c.geometry_stands.ensures (same_extensions v p m.extensions view c.requires.fields (shown.0, ap (λ (t : List ℕ). length t) shown.1)))
    ∙ of_view (λ (h : Head). record_of h m.pairs) v p view shown
