use Rattle.std.proofs.Common.{◌≡◌, ◌+◌, ◌∙◌, ℕ, List, length, ap, subst, sym, arith}
use Rattle.std.proofs.lemmas.List.{length_push}
use Rattle.trace_record.specs.declared.packed_record.PackedRecord.{PackedRecord}
use Rattle.edit_overlay.specs.CountedVolume.{RisesAtMost}
use Rattle.volume_loading.specs.PassedFile.{PassedFile, with_passed, HasReadOn}
use Rattle.volume_records.specs.OfPass.{HasRecords}
use Rattle.volume_records.proofs.OnePassLemmas.{looks_rise, read_on_again, record_passed}
use Rattle.volume_records.proofs.of_pass.pass_records.Goals as goal

pub turns-preserved : goal.turns-preserved
turns-preserved c =
    let fields = c.args.fields.now.pairs in
    let i = c.turns.invariant in
    let seen : PassedFile PackedRecord = c.next_trace.new.self in
    let is = c.next_trace.ensures.same in
    let put : c.push.new.self ≡ with_passed seen c.of.result = c.in-Ok.ensures.ok in
    let has : HasRecords fields seen = subst (λ (p : PassedFile PackedRecord). HasRecords fields p) (sym is) i.records in
    let more = record_passed fields seen c.of.result c.passed_record-record.result has c.of.ensures c.passed_record-record.ensures in
    let looked = c.in-Ok-true.ensures.looked c.in-Ok-true.field-0-test in
    let count : length c.push.new.self.traces ≡ length c.turns.passing.traces + 1 =
    ap (λ (p : PassedFile PackedRecord). length p.traces) put ∙ length_push seen.traces seen.shown ∙ ap (λ (p : PassedFile PackedRecord). length p.traces + 1) is in
    let looks : RisesAtMost c.args.passing.now.looks seen.looks (length c.turns.passing.traces + 1) = looks_rise c.args.passing.now.looks c.turns.passing.looks seen.looks (length c.turns.passing.traces) i.looks looked in
    let kept : c.push.new.self.looks ≡ seen.looks = ap (λ (p : PassedFile PackedRecord). p.looks) put in
    record {
      records = subst (λ (p : PassedFile PackedRecord). HasRecords fields p) (sym put) more;
      on = subst (λ (read : List ℕ). HasReadOn c.args.passing.now.read read) (sym (ap (λ (p : PassedFile PackedRecord). p.read) put)) (read_on_again c.args.passing.now.read c.turns.passing.read seen.read i.on c.next_trace.ensures.on);
      same = record {
        head = ap (λ (p : PassedFile PackedRecord). p.head) put ∙ ap (λ (p : PassedFile PackedRecord). p.head) is ∙ i.same.head;
        reading = ap (λ (p : PassedFile PackedRecord). p.reading) put ∙ ap (λ (p : PassedFile PackedRecord). p.reading) is ∙ i.same.reading;
        limits = ap (λ (p : PassedFile PackedRecord). p.limits) put ∙ ap (λ (p : PassedFile PackedRecord). p.limits) is ∙ i.same.limits;
        size = ap (λ (p : PassedFile PackedRecord). p.size) put ∙ ap (λ (p : PassedFile PackedRecord). p.size) is ∙ i.same.size;
      };
      looks = (omega (arith, looks.0, kept), omega (arith, looks.1, kept, count));
      unfailed = ap (λ (p : PassedFile PackedRecord). p.failures) put ∙ c.in-Ok-true.ensures.unfailed ∙ i.unfailed;
      memory = grind arith;
    }
