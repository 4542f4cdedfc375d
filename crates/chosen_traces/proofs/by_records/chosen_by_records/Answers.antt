use Rattle.std.proofs.Common.{◌≡◌, ◌∙◌, ℕ, ◌+◌, ◌-◌, List, drop, map, None, Some, sym, ap, arith}
use Rattle.std.specs.Prelude.{slice_get}
use Rattle.trace_record.specs.declared.packed_record.PackedRecord.{PackedRecord}
use Rattle.trace_record.specs.declared.record.Record.{Record}
use Rattle.trace_record.specs.Packed.{record_in}
use Rattle.chosen_traces.proofs.ChoosingLemmas.{all_rising, go_on, still_rise}
use Rattle.chosen_traces.proofs.RecordLemmas.{met, none_lacks}
use Rattle.chosen_traces.proofs.by_records.chosen_by_records.Goals as goal

pub returns-in_default-clause-ok : goal.returns-in_default-clause-ok
returns-in_default-clause-ok c = λ fields conditions tests beside.
    let place : ℕ = c.args.a - 1 + c.loop-k.k in
    let all : c.new-records.result ≡ map record_in c.args.overlay.now.payloads = c.new-records.ensures ∙ ap (λ (ps : List PackedRecord). map record_in ps) c.payloads.ensures in
    let none : slice_get (map record_in c.args.overlay.now.payloads) place ≡ None = ap (λ (rs : List Record). slice_get rs place) (sym all) ∙ sym c.record_at.ensures.record ∙ c.in_default.is in
    let past = none_lacks c.args.overlay.now fields beside place none in
    absurd (omega (arith, past, c.loop-k-test.true, c.requires.first, c.requires.range, c.requires.last))

pub returns-in_default-clause-rising : goal.returns-in_default-clause-rising
returns-in_default-clause-rising c = all_rising c.args.a c.args.b c.loop-k.k c.loop-k.traces.items (omega (arith, c.loop-k-test.true, c.requires.range)) c.loop-k.invariant.rising

pub loop-k-preserved : goal.loop-k-preserved
loop-k-preserved c =
    let i = c.loop-k.invariant in
    let kept = c.in_ok-keep.ensures.traces in
    let place : ℕ = c.args.a - 1 + c.loop-k.k in
    let all : c.new-records.result ≡ map record_in c.args.overlay.now.payloads = c.new-records.ensures ∙ ap (λ (ps : List PackedRecord). map record_in ps) c.payloads.ensures in
    let here : slice_get (map record_in c.args.overlay.now.payloads) place ≡ Some c.in-Some.record = ap (λ (rs : List Record). slice_get rs place) (sym all) ∙ sym c.record_at.ensures.record ∙ c.in-Some.is in
    let next : c.args.a + c.loop-k.k ≡ place + 1 = omega (arith, c.requires.first) in
    let behind : place + 1 ≡ c.args.a - 1 + (c.loop-k.k + 1) = omega arith in
    record {
      chosen = λ fields conditions tests beside.
          go_on c.args.overlay.now.volume conditions c.args.a c.args.b c.loop-k.k c.hold.result c.loop-k.traces.items c.keep.new.traces.items (omega (arith, c.loop-k-test.true, c.requires.range))
          (ap Some c.hold.ensures ∙ met c.args.overlay.now fields beside conditions c.args.tests.now c.has_float_samples-floats.result place (c.args.a + c.loop-k.k) c.in-Some.record c.has_float_samples-floats.ensures tests here next) kept (i.chosen fields conditions tests beside);
      rising = still_rise c.args.a c.loop-k.k c.hold.result c.loop-k.traces.items c.keep.new.traces.items c.requires.first kept i.rising;
      left = λ walks.
          c.record_at.ensures.left walks ∙ ap (λ (rs : List Record). drop (place + 1) rs) all ∙ ap (λ (n : ℕ). drop n (map record_in c.args.overlay.now.payloads)) behind;
      memory = grind arith;
    }
