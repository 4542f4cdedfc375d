use Rattle.std.proofs.Common.{◌≡◌, ◌∙◌, ℕ, ◌+◌, ◌-◌, ◌*◌, ◌<◌, IsTrue, List, length, map, refl, sym, subst, ap, arith}
use Rattle.std.proofs.Math.Nat.{mod-eq-sub-div-mul, div-mul-le_self}
use Rattle.std.proofs.lemmas.List.{length_push}
use Rattle.frame_cut.specs.Traces.{count_of}
use Rattle.frame_cut.specs.Volume.{Volume}
use Rattle.trace_record.specs.Packed.{record_in}
use Rattle.trace_record.specs.Told.{tells_record}
use Rattle.trace_record.specs.declared.record.Record.{Record}
use Rattle.volume_records.specs.Laid.{IsLaid}
use Rattle.volume_records.proofs.LaidLemmas.{laid_at}
use Rattle.volume_records.proofs.PassLemmas.{one_header_more, one_number_more}
use Rattle.volume_records.proofs.RecordLemmas.{record_beside}
use Rattle.volume_records.proofs.SeenLemmas.{seen_at_most, seen_both}
use Rattle.volume_records.proofs.of_traces.prepared_records.Goals as goal

pub loop-k-preserved : goal.loop-k-preserved
loop-k-preserved c =
    let v = c.args.overlay.now.prepared in
    let ps = c.args.overlay.now.payloads in
    let w = c.loop-k.overlay.prepared in
    let p = c.args.a - 1 in
    let n = c.loop-k.k in
    let i = c.loop-k.invariant in
    let made = c.in_ok-record.ensures in
    let there : p + n < count_of v = omega (arith, c.requires.last, c.loop-k-test.true) in
    let q : c.args.a + n ≡ p + n + 1 = omega (arith, c.requires.first) in
    let place : c.args.a + n - 1 ≡ p + n = omega (arith, c.requires.first) in
    let known = record_beside ps c.loop-k.overlay.payloads (p + n) (c.args.a + n - 1) c.payload.result c.record-known.result i.seen.payloads place c.payload.ensures c.record-known.ensures in
    let grew = c.in_ok-push.ensures.ok in
    let tells_of_part = subst (λ (size : ℕ). IsTrue (tells_record c.args.fields.now.pairs c.args.at size)) (sym c.part-part.ensures.length) in
    record {
      made = λ sure. one_header_more v w c.args.fields.now.pairs (map record_in ps) p n (c.args.a + n) c.loop-k.records c.push.new.self c.in_ok-record.record c.record-known.result i.seen.prepared there known q (i.made (made.seen.reads.agreed sure)) (made.record sure) grew;
      numbers = one_number_more (map record_in ps) p n c.loop-k.records c.push.new.self c.in_ok-record.record c.record-known.result known made.number grew i.numbers;
      count = ap (λ (rs : List Record). length rs) grew ∙ (length_push c.loop-k.records c.in_ok-record.record ∙ ap (λ m. m + 1) i.count);
      seen = seen_both c.args.overlay.now c.loop-k.overlay c.laid_headers.new.overlay n 1 i.seen made.seen;
      told = λ tells. (made.told (tells_of_part tells)).1 ∙ i.told tells;
      memory = grind arith;
    }

pub laid_headers-requires-clause-laid : goal.laid_headers-requires-clause-laid
laid_headers-requires-clause-laid c =
    let o = c.args.overlay.now in
    let fields = c.args.fields.now.pairs in
    let bytes : List ℕ = c.args.bytes.now in
    let k : ℕ = c.loop-k.k in
    let p : ℕ = c.args.a + k in
    let seen = c.loop-k.invariant.seen in
    let place : p - 1 ≡ c.args.a - 1 + k = omega (arith, c.requires.first) in
    let known = record_beside o.payloads c.loop-k.overlay.payloads (c.args.a - 1 + k) (p - 1) c.payload.result c.record-known.result seen.payloads place c.payload.ensures c.record-known.ensures in
    let long : length bytes ≡ c.args.count * c.args.size =
    rw (← c.requires.parts) (omega (arith, c.requires.exact, mod-eq-sub-div-mul (length bytes) c.args.size, div-mul-le_self (length bytes) c.args.size)) in
    λ sure.
    let laid = laid_at o fields c.args.a c.args.count c.args.at c.args.size k p bytes c.part-part.result.now c.record-known.result c.requires.first c.requires.held c.requires.some long c.loop-k-test.true refl known
    c.part-part.ensures.part c.part-part.ensures.length (c.requires.laid (seen.reads.agreed sure)) in
    subst (λ (v : Volume). IsLaid v c.loop-k.overlay.prepared fields p c.args.at c.part-part.result.now c.record-known.result) (sym seen.volume)
    (subst (λ (v : Volume). IsLaid o.volume v fields p c.args.at c.part-part.result.now c.record-known.result) (sym seen.prepared) laid)

pub returns-in_err-push-clause-seen : goal.returns-in_err-push-clause-seen
returns-in_err-push-clause-seen c =
    let n = c.loop-k.k in
    let seen = seen_both c.args.overlay.now c.loop-k.overlay c.laid_headers.new.overlay n 1 c.loop-k.invariant.seen c.in_ok-record.ensures.seen in
    seen_at_most c.args.overlay.now c.laid_headers.new.overlay (n + 1) c.args.count seen (omega (arith, c.loop-k-test.true))
