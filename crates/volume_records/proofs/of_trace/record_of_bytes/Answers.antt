use Rattle.std.proofs.Common.{sym, ap, ap₂, ◌∙◌}
use Rattle.frame_cut.specs.declared.file_head.Head.{Head}
use Rattle.trace_record.specs.OfTrace.{record_of}
use Rattle.volume_records.proofs.SeenLemmas.{geometry_in_view}
use Rattle.volume_records.proofs.of_trace.record_of_bytes.Goals as goal

pub returns : goal.returns
returns c =
    let m = c.args.fields.now in
    let made = c.new-whole.ensures in
    c.record_of.ensures (geometry_in_view c.new-whole.result m c.geometry_stands.ensures (c.requires.fields ∙ sym (ap (λ (h : Head). h.extensions) made.head)))
    ∙ ap₂ (λ (h : Head). record_of h m.pairs) made.head made.bytes
