use Rattle.std.proofs.Common.{◌∙◌, IsTrue, ℕ, List, length, ap, sym, subst, arith}
use Rattle.std.specs.Prelude.{slice_index_or}
use Rattle.field_map.specs.Pairs.{Pairs}
use Rattle.frame_cut.specs.Traces.{is_trace, trace_at}
use Rattle.frame_cut.specs.Volume.{Volume}
use Rattle.header_answers.specs.declared.seen.Seen.{Seen}
use Rattle.header_answers.specs.Seen.{seen_each, shown_of}
use Rattle.bench_rules.proofs.LookLemmas.{if_sure, seen_after}
use Rattle.bench_rules.proofs.RisingLemmas.{rising_trace}
use Rattle.header_answers.proofs.SeenLemmas.{listed_seen, listed_shown}
use Rattle.header_answers.proofs.all_extremes.extremes_among.Goals as goal

pub see_trace-requires-clause-trace : goal.see_trace-requires-clause-trace
see_trace-requires-clause-trace c =
    subst (λ (v : Volume). IsTrue (is_trace v (slice_index_or c.args.traces.now c.loop-p.p-index 0))) (sym c.loop-p.invariant.seen.volume)
    (rising_trace c.args.overlay.now.volume c.args.traces.now c.loop-p.p-index 0 c.loop-p-test.true c.requires)

pub loop-p-preserved : goal.loop-p-preserved
loop-p-preserved c =
    let v : Volume = c.args.overlay.now.volume in
    let p : ℕ = slice_index_or c.args.traces.now c.loop-p.p-index 0 in
    let i = c.loop-p.invariant in
    let made = c.in_ok-see_trace.ensures in
    record {
      numbers = λ sure. made.numbers sure
          ∙ ap (λ (u : Volume). seen_each u.head (trace_at u p) c.as_slice-in-loop-p.result.now c.loop-p.seen.items) i.seen.volume
          ∙ ap (λ (ns : Pairs). seen_each v.head (trace_at v p) ns c.loop-p.seen.items) c.as_slice-in-loop-p.ensures.value
          ∙ ap (λ (ss : List Seen). seen_each v.head (trace_at v p) c.args.names.items ss) (i.numbers (made.seen.reads.agreed sure))
          ∙ listed_seen v c.args.traces.now c.loop-p.p-index 0 c.args.names.items c.loop-p-test.true;
      each = made.each ∙ ap (λ (ns : Pairs). length ns) c.as_slice-in-loop-p.ensures.value;
      seen = seen_after c.args.overlay.now c.loop-p.overlay c.see_trace.new.overlay c.loop-p.p-index 1 i.seen made.seen;
      memory = grind arith;
    }

pub returns-clause-ok : goal.returns-clause-ok
returns-clause-ok c =
    let v : Volume = c.args.overlay.now.volume in
    if_sure c.shown.result
    (λ sure. ap (λ (ss : List Seen). shown_of c.args.names.items ss) (c.as_slice-2.ensures.value ∙ c.loop-p.invariant.numbers sure)
    ∙ listed_shown v c.args.names.items c.args.traces.now c.loop-p.p-index (omega (arith, c.loop-p-test.false)))
    c.shown.ensures.ok
