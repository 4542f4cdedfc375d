use Rattle.std.proofs.Common.{◌∙◌, ◌++◌, ◌∷◌, [], ℕ, List, IsTrue, map, take, true, false, ap, arith, sym, subst}
use Rattle.std.specs.Prelude.{slice_index_or}
use Rattle.std.proofs.lemmas.List.{map-append, take_all, take_more}
use Rattle.frame_cut.specs.Traces.{is_trace}
use Rattle.frame_cut.specs.Volume.{Volume}
use Rattle.bench_rules.specs.declared.trace_statistics.TraceStatistics.{TraceStatistics}
use Rattle.bench_rules.specs.SampleStatistics.{samples_at, trace_statistics}
use Rattle.bench_rules.proofs.LookLemmas.{seen_after}
use Rattle.bench_rules.proofs.RisingLemmas.{rising_trace}
use Rattle.sample_answers.proofs.among.numbers_among.Goals as goal

pub of_numbers-requires-clause-trace : goal.of_numbers-requires-clause-trace
of_numbers-requires-clause-trace c =
    subst (λ (v : Volume). IsTrue (is_trace v (slice_index_or c.args.traces.now c.loop-p.p-index 0))) (sym c.loop-p.invariant.seen.volume)
    (rising_trace c.args.overlay.now.volume c.args.traces.now c.loop-p.p-index 0 c.loop-p-test.true c.requires.rising)

pub loop-p-preserved : goal.loop-p-preserved
loop-p-preserved c =
    let v : Volume = c.args.overlay.now.volume in
    let ps : List ℕ = c.args.traces.now in
    let p : ℕ = slice_index_or ps c.loop-p.p-index 0 in
    let i = c.loop-p.invariant in
    let made = c.in_ok-one.ensures in
    let of : Volume → ℕ → TraceStatistics = λ u q. trace_statistics q (samples_at u q) in
    record {
      found = λ sure.
          (rw c.in_ok-told_back.ensures.ok at c.push.ensures.items)
          ∙ ap (λ (l : List TraceStatistics). l ++ c.in_ok-one.one ∷ []) (i.found (made.seen.reads.agreed sure))
          ∙ ap (λ (s : TraceStatistics). map (of v) (take c.loop-p.p-index ps) ++ s ∷ []) (made.ok sure ∙ ap (λ (u : Volume). of u p) i.seen.volume)
          ∙ sym (map-append (of v) (take c.loop-p.p-index ps) (p ∷ []))
          ∙ sym (ap (map (of v)) (take_more ps c.loop-p.p-index 0 c.loop-p-test.true));
      seen = seen_after c.args.overlay.now c.loop-p.overlay c.of_numbers.new.overlay c.loop-p.p-index 1 i.seen made.seen;
      memory = grind arith;
    }

pub returns-clause-ok : goal.returns-clause-ok
returns-clause-ok c = λ sure.
    c.new.ensures ∙ c.loop-p.invariant.found sure
    ∙ ap (λ (ps : List ℕ). map (λ p. trace_statistics p (samples_at c.args.overlay.now.volume p)) ps) (take_all c.loop-p.p-index c.args.traces.now (omega (arith, c.loop-p-test.false)))
