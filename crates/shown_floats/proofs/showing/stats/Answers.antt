use Rattle.std.proofs.Common.{◌≡◌, ◌∙◌, ◌++◌, ◌∷◌, [], ◌+◌, suc, List, map, take, get_or, ℕ, All, arith, ap, sym, subst}
use Rattle.std.specs.Prelude.{None}
use Rattle.std.proofs.Math.Seq.{take-suc}
use Rattle.std.proofs.lemmas.List.{map-append}
use Rattle.std.proofs.lemmas.List.Elements.{All-append, All-cons, All-nil}
use Rattle.bench_rules.specs.declared.trace_statistics.FloatTraceStatistics.{FloatTraceStatistics}
use Rattle.shown_floats.specs.declared.float_answer.ShownTrace.{ShownTrace}
use Rattle.shown_floats.specs.Shows.{ShowsStat}
use Rattle.shown_floats.proofs.showing.stats.Goals as goal

pub loop-trace-preserved : goal.loop-trace-preserved
loop-trace-preserved c =
    let traces = c.args.traces.now in
    let i = c.loop-trace.trace-index in
    let none : FloatTraceStatistics = record { position = 0; statistics = None; zeros = 0 } in
    let trace : FloatTraceStatistics = get_or traces i none in
    let made : ShownTrace = record { trace = trace; statistics = c.stat.result } in
    let items : c.push.new.self.items ≡ c.loop-trace.shown.items ++ made ∷ [] = rw c.in_ok-told_back.ensures.ok at c.push.ensures.items in
    let more : i + 1 ≡ suc i = omega arith in
    let P = λ (t : ShownTrace). ShowsStat c.args.format t.trace.statistics t.statistics in (
      (
        ap (map (λ (t : ShownTrace). t.trace)) items
            ∙ map-append (λ (t : ShownTrace). t.trace) c.loop-trace.shown.items (made ∷ [])
            ∙ ap (λ (l : List FloatTraceStatistics). l ++ trace ∷ []) c.loop-trace.invariant.0.0
            ∙ sym (ap (λ (n : ℕ). take n traces) more ∙ take-suc traces i none c.loop-trace-test.true),
        subst (All P) (sym items) (All-append P c.loop-trace.shown.items (made ∷ []) c.loop-trace.invariant.0.1 (All-cons P made [] c.stat.ensures (All-nil P))),
      ),
      grind arith,
    )
