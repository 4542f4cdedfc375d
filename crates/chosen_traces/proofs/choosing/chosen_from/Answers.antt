use Rattle.std.proofs.Common.{◌≡◌, ◌∙◌, ℕ, ◌+◌, ◌-◌, ◌<◌, List, Option, None, Some, inr, refl, sym, ap, subst, arith}
use Rattle.std.proofs.lemmas.Result.{err_from_is_err_and}
use Rattle.frame_cut.specs.Traces.{count_of, trace_at}
use Rattle.frame_cut.specs.Volume.{Volume}
use Rattle.trace_record.specs.declared.amplitudes.Amplitudes.{Amplitudes}
use Rattle.trace_record.specs.declared.packed_record.PackedRecord.{PackedRecord}
use Rattle.bench_rules.specs.Conditions.{meets_by}
use Rattle.bench_rules.specs.ReadFaults.{ask_fault_of}
use Rattle.bench_rules.specs.SampleFacts.{amplitudes_at}
use Rattle.bench_rules.proofs.LackLemmas.{lacks_whatever}
use Rattle.bench_rules.proofs.LookLemmas.{seen_after}
use Rattle.bench_rules.proofs.ReadTellLemmas.{ask_before, ask_tells}
use Rattle.bench_rules.proofs.SeenLemmas.{seen_at_most}
use Rattle.chosen_traces.specs.RecordTests.{amplitudes_beside, amplitudes_if}
use Rattle.chosen_traces.proofs.BesideLemmas.{same_where_asked}
use Rattle.chosen_traces.proofs.ChoosingLemmas.{go_on, lacks, still_rise}
use Rattle.chosen_traces.proofs.RecordLemmas.{amplitudes_there}
use Rattle.chosen_traces.proofs.choosing.chosen_from.Goals as goal

pub returns-in_default-clause-err : goal.returns-in_default-clause-err
returns-in_default-clause-err c = inr (inr (
  refl,
  λ sure.
      let i = c.loop-k.invariant in
      let made = c.in_ok-is_chosen.ensures in
      let told = sym c.in_default.is ∙ made.told sure in
      let v : Volume = c.args.overlay.now.volume in
      let p : ℕ = c.args.a + c.loop-k.k in
      let found : Option Amplitudes = amplitudes_if c.ask_values-beside.result c.loop-k.overlay.payloads p in
      let said = subst (λ (u : Volume). None ≡ meets_by u.head (trace_at u p) found c.args.tests.now) i.seen.volume told in
      lacks v c.args.tests.now c.args.a c.args.b c.loop-k.k (omega (arith, c.loop-k-test.true, c.requires.range))
      (lacks_whatever v.head (trace_at v p) found (amplitudes_at v.head (trace_at v p)) c.args.tests.now (sym said)),
))

pub loop-k-preserved : goal.loop-k-preserved
loop-k-preserved c =
    let i = c.loop-k.invariant in
    let made = c.in_ok-is_chosen.ensures in
    let kept = c.in_ok-keep.ensures.traces in
    let v : Volume = c.args.overlay.now.volume in
    let p : ℕ = c.args.a + c.loop-k.k in
    record {
      chosen = λ fields sure beside.
          let told = sym c.in-Some.is ∙ made.told sure in
          let there : p - 1 < count_of v = omega (arith, c.loop-k-test.true, c.requires.first, c.requires.range, c.requires.last) in
          let found : Option Amplitudes = amplitudes_if c.ask_values-beside.result c.loop-k.overlay.payloads p in
          let said = subst (λ (u : Volume). Some c.in-Some.is_chosen ≡ meets_by u.head (trace_at u p) found c.args.tests.now) i.seen.volume told in
          let enough = same_where_asked v.head (trace_at v p) c.ask_values-beside.result c.loop-k.overlay.payloads p c.args.tests.now c.ask_values-beside.ensures in
          let same : amplitudes_beside c.loop-k.overlay.payloads p ≡ amplitudes_at v.head (trace_at v p) =
          ap (λ (ps : List PackedRecord). amplitudes_beside ps p) i.seen.payloads ∙ amplitudes_there c.args.overlay.now fields beside p there in
          go_on v c.args.tests.now c.args.a c.args.b c.loop-k.k c.in-Some.is_chosen c.loop-k.traces.items c.keep.new.traces.items (omega (arith, c.loop-k-test.true, c.requires.range))
          (said ∙ enough ∙ ap (λ (all : Option Amplitudes). meets_by v.head (trace_at v p) all c.args.tests.now) same) kept (i.chosen fields (made.seen.reads.agreed sure) beside);
      rising = still_rise c.args.a c.loop-k.k c.in-Some.is_chosen c.loop-k.traces.items c.keep.new.traces.items c.requires.first kept i.rising;
      seen = seen_after c.args.overlay.now c.loop-k.overlay c.judged.new.overlay c.loop-k.k 1 i.seen made.seen;
      memory = grind arith;
    }

pub returns-in_err-is_chosen-clause-reads_tell : goal.returns-in_err-is_chosen-clause-reads_tell
returns-in_err-is_chosen-clause-reads_tell c =
    let old = c.args.overlay.now.reads in
    let mid = c.loop-k.overlay.reads in
    let new = c.judged.new.overlay.reads in
    let read = c.in_err-is_chosen.field-0.0 in
    let handed_on = err_from_is_err_and c.from_residual.result c.from_residual.ensures.1 in
    rw (handed_on.1, handed_on.2) (ask_before old mid new (ask_fault_of read) c.loop-k.invariant.seen.reads (ask_tells mid new read c.in_err-is_chosen.ensures.reads_tell))

pub returns-in_err-is_chosen-clause-seen : goal.returns-in_err-is_chosen-clause-seen
returns-in_err-is_chosen-clause-seen c =
    seen_at_most _ _ _ _ (seen_after c.args.overlay.now c.loop-k.overlay c.judged.new.overlay c.loop-k.k 1 c.loop-k.invariant.seen c.in_err-is_chosen.ensures.seen) (omega (arith, c.loop-k-test.true, c.requires.range))

pub returns-in_default-clause-seen : goal.returns-in_default-clause-seen
returns-in_default-clause-seen c =
    seen_at_most _ _ _ _ (seen_after c.args.overlay.now c.loop-k.overlay c.judged.new.overlay c.loop-k.k 1 c.loop-k.invariant.seen c.in_ok-is_chosen.ensures.seen) (omega (arith, c.loop-k-test.true, c.requires.range))

pub returns-in_err-keep-clause-seen : goal.returns-in_err-keep-clause-seen
returns-in_err-keep-clause-seen c =
    seen_at_most _ _ _ _ (seen_after c.args.overlay.now c.loop-k.overlay c.judged.new.overlay c.loop-k.k 1 c.loop-k.invariant.seen c.in_ok-is_chosen.ensures.seen) (omega (arith, c.loop-k-test.true, c.requires.range))

pub returns-clause-seen : goal.returns-clause-seen
returns-clause-seen c = seen_at_most _ _ _ _ c.loop-k.invariant.seen (omega (arith, c.loop-k.auto.k-end, c.requires.range))
