use Rattle.std.proofs.Common.{◌≡◌, ℕ, ◌+◌, ◌-◌, ◌<◌, ◌≤◌, ◌∙◌, List, [], length, map, get_or, sym, ap, subst, arith}
use Rattle.std.specs.Prelude.{slice_set}
use Rattle.std.proofs.lemmas.List.{length-map, length-set, map-set, get_or-map}
use Rattle.frame_cut.specs.Traces.{count_of, trace_at}
use Rattle.frame_cut.specs.Volume.{Volume}
use Rattle.trace_record.specs.Facts.{Facts, facts_of}
use Rattle.trace_record.specs.OfTrace.{record_of}
use Rattle.trace_record.specs.Packed.{record_in}
use Rattle.trace_record.specs.declared.packed_record.PackedRecord.{PackedRecord}
use Rattle.trace_record.specs.declared.record.Record.{Record}
use Rattle.edit_overlay.specs.CountedVolume.{CountedVolume, one_more}
use Rattle.edit_overlay.specs.Reads.{HaveAgreed, Reads}
use Rattle.volume_records.specs.OfVolume.{records_of}
use Rattle.volume_records.proofs.FewLemmas.{numbers_more}
use Rattle.volume_records.proofs.ItemLemmas.{set_next}
use Rattle.volume_records.proofs.SeenLemmas.{rises_more}
use Rattle.volume_records.proofs.remaking.renew.Goals as goal

abbrev Overlaid : Type 0
Overlaid = CountedVolume PackedRecord

pub loop-k-preserved : goal.loop-k-preserved
loop-k-preserved c =
    let v : Volume = c.args.overlay.now.volume in
    let fields = c.args.fields.now.pairs in
    let k = c.loop-k.k in
    let i = c.loop-k.invariant in
    let ps = c.loop-k.overlay.payloads in
    let seen = c.in_ok-record.ensures in
    let new : Record = c.in_ok-record.record in
    let old : List Facts = map facts_of (map record_in c.args.overlay.now.payloads) in
    let many : length old ≡ count_of v = length-map (map record_in c.args.overlay.now.payloads) facts_of ∙ (length-map c.args.overlay.now.payloads record_in ∙ c.requires.each) in
    let all : length (records_of v fields) ≡ count_of v = length-map v.traces (record_of v.head fields) in
    let below : k < count_of v = omega (arith, c.loop-k-test.true, c.count-k-end.ensures) in
    let place : k + 1 - 1 ≡ k = omega arith in
    let looked : Overlaid = c.seen_record.new.overlay in
    let payloads : looked.payloads ≡ ps = ap (λ (o : Overlaid). o.payloads) seen.looked in
    let put : c.set_payload.new.self.payloads ≡ slice_set ps k c.of.result =
    ap (λ (o : Overlaid). o.payloads) c.set_payload.ensures ∙ (ap (λ n. slice_set looked.payloads n c.of.result) place ∙ ap (λ (xs : List PackedRecord). slice_set xs k c.of.result) payloads) in
    let kept : c.set_payload.new.self.reads ≡ looked.reads = ap (λ (o : Overlaid). o.reads) c.set_payload.ensures in
    let told : c.set_payload.new.self.looks ≡ one_more c.loop-k.overlay.looks = ap (λ (o : Overlaid). o.looks) c.set_payload.ensures ∙ ap (λ (o : Overlaid). o.looks) seen.looked in
    let number : (record_in c.of.result).number ≡ new.number = ap (λ (r : Record). r.number) c.of.ensures in
    let few : new.number ≤ length (get_or v.traces k []) = subst (λ (n : ℕ). new.number ≤ length (get_or v.traces n [])) place (subst (λ (u : Volume). new.number ≤ length (trace_at u (k + 1))) i.volume seen.few) in
    record {
      made = λ sure.
          let before : HaveAgreed looked.reads = subst HaveAgreed kept sure in
          let is : facts_of new ≡ get_or (records_of v fields) k (facts_of new) =
          seen.record before ∙ (ap (λ (u : Volume). record_of u.head fields (trace_at u (k + 1))) i.volume
          ∙ (ap (λ n. record_of v.head fields (get_or v.traces n [])) place ∙ sym (get_or-map (record_of v.head fields) v.traces k [] (facts_of new) below))) in
          ap (λ (xs : List PackedRecord). map facts_of (map record_in xs)) put
          ∙ (ap (λ (rs : List Record). map facts_of rs) (map-set record_in ps k c.of.result)
          ∙ (map-set facts_of (map record_in ps) k (record_in c.of.result)
          ∙ (ap (λ (r : Record). slice_set (map facts_of (map record_in ps)) k (facts_of r)) c.of.ensures
          ∙ (ap (λ (fs : List Facts). slice_set fs k (facts_of new)) (i.made (seen.reads.agreed before))
          ∙ set_next (records_of v fields) old k (facts_of new) (omega (arith, below, all)) (omega (arith, below, many)) is))));
      within = numbers_more ps c.set_payload.new.self.payloads v.traces k c.of.result new.number (omega (arith, below, i.each)) put number few i.within;
      each = ap (λ (xs : List PackedRecord). length xs) put ∙ (length-set ps k c.of.result ∙ i.each);
      volume = ap (λ (o : Overlaid). o.volume) c.set_payload.ensures ∙ (ap (λ (o : Overlaid). o.volume) seen.looked ∙ i.volume);
      prepared = ap (λ (o : Overlaid). o.prepared) c.set_payload.ensures ∙ (ap (λ (o : Overlaid). o.volume) seen.looked ∙ i.volume);
      loaded = ap (λ (o : Overlaid). o.loaded) c.set_payload.ensures ∙ (ap (λ (o : Overlaid). o.loaded) seen.looked ∙ i.loaded);
      looks = rises_more c.args.overlay.now.looks c.loop-k.overlay.looks c.set_payload.new.self.looks k i.looks told;
      reads = record {
        agreed = λ sure. i.reads.agreed (seen.reads.agreed (subst HaveAgreed kept sure));
        failures = omega (arith, i.reads.failures, seen.reads.failures, ap (λ (r : Reads). r.failures) kept);
      };
    }
