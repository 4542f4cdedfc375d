use Rattle.std.proofs.Common.{◌≡◌, ◌∙◌, ◌-◌, List, map, ap, sym, subst}
use Rattle.std.specs.Prelude.{slice_set}
use Rattle.std.proofs.lemmas.List.{map-set}
use Rattle.trace_record.specs.Packed.{record_in}
use Rattle.trace_record.specs.declared.packed_record.PackedRecord.{PackedRecord}
use Rattle.trace_record.specs.declared.record.Record.{Record}
use Rattle.edit_overlay.specs.CountedVolume.{CountedVolume}
use Rattle.live_reports.specs.OfRecords.{AreReportsOf}
use Rattle.volume_records.proofs.committing.commit_with_record.Goals as goal

pub returns-in-Ok-clause-records : goal.returns-in-Ok-clause-records
returns-in-Ok-clause-records c =
    let o : CountedVolume PackedRecord = c.args.overlay.now in
    let i = c.args.p - 1 in
    ap (λ (x : CountedVolume PackedRecord). map record_in x.payloads) c.commit_with.ensures
    ∙ (map-set record_in o.payloads_prepared i c.of.result
    ∙ (ap (λ (r : Record). slice_set (map record_in o.payloads_prepared) i r) c.of.ensures
    ∙ ap (λ (ps : List PackedRecord). slice_set (map record_in ps) i c.args.trace.now) c.requires.stay))

pub returns-in-Ok-clause-reports : goal.returns-in-Ok-clause-reports
returns-in-Ok-clause-reports c =
    let o : CountedVolume PackedRecord = c.args.overlay.now in
    let i = c.args.p - 1 in
    let same : c.new.result ≡ map record_in o.payloads = c.new.ensures ∙ ap (λ (ps : List PackedRecord). map record_in ps) c.payloads.ensures in
    let put : map record_in c.commit_with.new.self.payloads ≡ slice_set (map record_in o.payloads) i c.args.trace.now =
    ap (λ (x : CountedVolume PackedRecord). map record_in x.payloads) c.commit_with.ensures
    ∙ (map-set record_in o.payloads_prepared i c.of.result
    ∙ (ap (λ (r : Record). slice_set (map record_in o.payloads_prepared) i r) c.of.ensures
    ∙ ap (λ (ps : List PackedRecord). slice_set (map record_in ps) i c.args.trace.now) c.requires.stay)) in
    subst (λ (l : List Record). AreReportsOf c.exchange.new.self l) (sym put) (subst (λ (l : List Record). AreReportsOf c.exchange.new.self (slice_set l i c.args.trace.now)) same c.in-Ok.ensures.ok)
