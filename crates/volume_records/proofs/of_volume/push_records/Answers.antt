use Rattle.std.proofs.Common.{◌≡◌, ◌+◌, ◌<◌, ◌++◌, ◌∷◌, [], ◌∙◌, List, length, map, take, sym, ap, arith, rules}
use Rattle.std.proofs.lemmas.List.{length_push, map-append}
use Rattle.frame_cut.specs.Traces.{count_of, trace_at}
use Rattle.frame_cut.specs.Volume.{Volume}
use Rattle.trace_record.specs.Facts.{facts_of}
use Rattle.trace_record.specs.OfTrace.{record_of}
use Rattle.trace_record.specs.Packed.{record_in}
use Rattle.trace_record.specs.declared.packed_record.PackedRecord.{PackedRecord}
use Rattle.trace_record.specs.declared.record.Record.{Record}
use Rattle.volume_records.specs.OfVolume.{records_of}
use Rattle.volume_records.proofs.PassLemmas.{one_record_more}
use Rattle.volume_records.proofs.of_volume.push_records.Goals as goal

pub loop-k-preserved : goal.loop-k-preserved
loop-k-preserved c =
    let v : Volume = c.args.loading.now.volume in
    let fields = c.args.fields.now.pairs in
    let i = c.loop-k.invariant in
    let old : List PackedRecord = c.loop-k.loading.payloads in
    let n = length old in
    let r = c.next_record-record in
    let there : n < count_of v = omega (arith, i.count, c.loop-k-test.true, c.count-k-end.ensures) in
    let grew : c.push.new.self.payloads ≡ old ++ c.of.result ∷ [] =
    ap (λ l. l.payloads) c.in_ok-push.ensures.ok ∙ ap (λ (xs : List PackedRecord). xs ++ c.of.result ∷ []) (ap (λ l. l.payloads) r.ensures.loading) in
    let more : length c.push.new.self.payloads ≡ n + 1 = ap (λ (xs : List PackedRecord). length xs) grew ∙ length_push old c.of.result in
    let is : facts_of r.result ≡ record_of v.head fields (trace_at v (n + 1)) = r.ensures.record ∙ ap (λ (u : Volume). record_of u.head fields (trace_at u (n + 1))) i.volume in
    let put : map record_in c.push.new.self.payloads ≡ map record_in old ++ r.result ∷ [] =
    ap (λ (xs : List PackedRecord). map record_in xs) grew ∙ (map-append record_in old (c.of.result ∷ []) ∙ ap (λ (x : Record). map record_in old ++ x ∷ []) c.of.ensures) in
    let made = one_record_more v fields n (map record_in old) (map record_in c.push.new.self.payloads) r.result there i.made is put in
    record {
      count = omega (arith, more, i.count);
      made = made ∙ ap (λ m. take m (records_of v fields)) (sym more);
      volume = search rules;
      looks = search rules;
      loaded = search rules;
      reads = search rules;
      memory = grind arith;
    }
