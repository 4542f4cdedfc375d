use Rattle.std.proofs.Common.{◌≡◌, ◌+◌, ◌-◌, ◌<◌, ◌∙◌, List, length, map, get_or, Some, ap, sym, arith, rules}
use Rattle.std.specs.Prelude.{option_map, slice_get, slice_set}
use Rattle.std.proofs.lemmas.List.{length-map, map-set}
use Rattle.std.proofs.lemmas.Option.{get_or_from_slice_get}
use Rattle.trace_record.specs.Packed.{record_in}
use Rattle.trace_record.specs.declared.packed_record.PackedRecord.{PackedRecord}
use Rattle.trace_record.specs.declared.record.Record.{Record}
use Rattle.live_reports.proofs.ExchangeLemmas.{one_further}
use Rattle.live_reports.proofs.ListLemmas.{item_at}
use Rattle.volume_records.proofs.remaking.set_records.Goals as goal

pub overflow_cast-k : goal.overflow_cast-k
overflow_cast-k c = omega (arith, c.requires.last, c.loop-k-test.true, c.len-k-end.ensures, c.count-count.ensures)

pub overflow_add-a : goal.overflow_add-a
overflow_add-a c = omega (arith, c.requires.last, c.loop-k-test.true, c.len-k-end.ensures, c.count-count.ensures)

pub loop-k-preserved : goal.loop-k-preserved
loop-k-preserved c =
    let ps = c.args.overlay.now.payloads in
    let rs : List Record = map record_in ps in
    let new = c.args.records.now in
    let at = c.args.a - 1 in
    let k = c.loop-k.k in
    let i = c.loop-k.invariant in
    let packed : PackedRecord = c.in-Some.record in
    let within : k < length new = omega (arith, c.loop-k-test.true, c.len-k-end.ensures) in
    let inside : at + k < length rs = omega (arith, length-map ps record_in, c.requires.held, within) in
    let old = item_at rs (at + k) inside in
    let place : c.args.a + k - 1 ≡ at + k = omega (arith, c.requires.first) in
    let there : slice_get new k ≡ Some (record_in packed) = sym c.packed.ensures ∙ ap (option_map record_in) c.in-Some.is in
    let is : record_in packed ≡ get_or new k (record_in packed) = sym (get_or_from_slice_get new k (record_in packed) (record_in packed) there) in
    let put : c.set_payload.new.self.payloads ≡ slice_set c.loop-k.overlay.payloads (at + k) packed =
    ap (λ o. o.payloads) c.set_payload.ensures ∙ ap (λ n. slice_set c.loop-k.overlay.payloads n packed) place in
    record {
      put = ap (λ (xs : List PackedRecord). map record_in xs) put
          ∙ (map-set record_in c.loop-k.overlay.payloads (at + k) packed
          ∙ (ap (λ (xs : List Record). slice_set xs (at + k) (record_in packed)) i.put
          ∙ one_further rs at k new old.item (record_in packed) old.is within is));
      volume = search rules;
      prepared = search rules;
      looks = search rules;
      loaded = search rules;
      reads = search rules;
    }
