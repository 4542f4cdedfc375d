use Rattle.std.proofs.Common.{◌≡◌, ◌∙◌, List, map, ap, sym}
use Rattle.std.proofs.lemmas.List.{length-map}
use Rattle.frame_cut.specs.Traces.{count_of}
use Rattle.trace_record.specs.Facts.{facts_of}
use Rattle.trace_record.specs.Packed.{record_in}
use Rattle.trace_record.specs.declared.packed_record.PackedRecord.{PackedRecord}
use Rattle.volume_records.proofs.FewLemmas.{cut_is_few}
use Rattle.volume_records.proofs.RecordLemmas.{length-records}
use Rattle.volume_records.proofs.of_volume.with_records.Goals as goal

pub finish-overlay-requires : goal.finish-overlay-requires
finish-overlay-requires c =
    let each : List PackedRecord = c.push_records.new.loading.payloads in
    sym (length-map each record_in)
    ∙ length-records c.args.loading.volume c.args.fields.now.pairs (map record_in each) c.in-Ok.ensures.records
    ∙ ap count_of (sym c.in-Ok.ensures.volume)

pub from_records-requires : goal.from_records-requires
from_records-requires c =
    let v = c.args.loading.volume in
    let same : c.new.result ≡ map record_in c.push_records.new.loading.payloads =
    c.new.ensures ∙ (ap (λ (ps : List PackedRecord). map record_in ps) c.payloads.ensures ∙ ap (λ o. map record_in o.payloads) c.finish-overlay.ensures.overlay) in
    cut_is_few v c.args.fields.now.pairs c.new.result c.requires.file c.in-Ok.ensures.few (ap (map facts_of) same ∙ c.in-Ok.ensures.records)
