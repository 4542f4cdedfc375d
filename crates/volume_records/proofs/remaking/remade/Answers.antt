use Rattle.std.proofs.Common.{◌∙◌, List, map, ap, sym, subst}
use Rattle.trace_record.specs.Packed.{record_in}
use Rattle.trace_record.specs.declared.packed_record.PackedRecord.{PackedRecord}
use Rattle.live_reports.specs.Reports.{AreFew}
use Rattle.volume_records.proofs.FewLemmas.{numbers_are_few}
use Rattle.volume_records.proofs.remaking.remade.Goals as goal

pub from_records-requires : goal.from_records-requires
from_records-requires c =
    let made = c.in_ok-renew.ensures in
    let same = c.new.ensures ∙ ap (λ (ps : List PackedRecord). map record_in ps) c.payloads.ensures in
    subst AreFew (sym same) (numbers_are_few c.args.overlay.now.volume c.renew.new.overlay.payloads c.requires.small made.few made.each made.within)
