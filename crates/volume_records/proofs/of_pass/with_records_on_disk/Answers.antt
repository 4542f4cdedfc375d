use Rattle.std.proofs.Common.{◌≡◌, ◌∙◌, List, map, ap, arith}
use Rattle.trace_record.specs.Facts.{facts_of}
use Rattle.trace_record.specs.Packed.{record_in}
use Rattle.trace_record.specs.declared.packed_record.PackedRecord.{PackedRecord}
use Rattle.volume_records.specs.OfVolume.{records_of}
use Rattle.volume_records.proofs.FewLemmas.{cut_is_few}
use Rattle.volume_records.proofs.OnePassLemmas.{records_passed}
use Rattle.volume_records.proofs.of_pass.with_records_on_disk.Goals as goal

pub from_records-requires : goal.from_records-requires
from_records-requires c =
    let o = c.in-Ok-finish.overlay in
    let fields = c.args.fields.now.pairs in
    let passed = c.pass_records.new.passing in
    let kept = c.in-Ok-finish.ensures.passed in
    let same : c.new.result ≡ map record_in o.payloads = c.new.ensures ∙ ap (λ (ps : List PackedRecord). map record_in ps) c.payloads.ensures in
    let made : map facts_of (map record_in o.payloads) ≡ records_of o.volume fields = records_passed fields passed o.volume o.payloads c.in-Ok.ensures.records kept.head kept.traces kept.payloads in
    cut_is_few o.volume fields c.new.result (passed.reading, passed.limits, c.in-Ok-finish.ensures.cut) (omega (arith, c.count-count.ensures, c.count-count.type_inv)) (ap (map facts_of) same ∙ made)
