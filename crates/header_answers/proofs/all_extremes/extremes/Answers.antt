use Rattle.std.proofs.Common.{◌∙◌, ◌+◌, ℕ, List, length, ap, arith}
use Rattle.field_map.specs.Pairs.{Pairs}
use Rattle.frame_cut.specs.Traces.{trace_at}
use Rattle.frame_cut.specs.Volume.{Volume}
use Rattle.header_answers.specs.declared.seen.Seen.{Seen}
use Rattle.header_answers.specs.Seen.{seen_each, shown_of}
use Rattle.bench_rules.proofs.LookLemmas.{if_sure, seen_after}
use Rattle.header_answers.proofs.SeenLemmas.{trace_seen, shown_names}
use Rattle.header_answers.proofs.all_extremes.extremes.Goals as goal

pub loop-k-preserved : goal.loop-k-preserved
loop-k-preserved c =
    let v : Volume = c.args.overlay.now.volume in
    let p : ℕ = c.args.a + c.loop-k.k in
    let i = c.loop-k.invariant in
    let made = c.in_ok-see_trace.ensures in
    record {
      numbers = λ sure. made.numbers sure
          ∙ ap (λ (u : Volume). seen_each u.head (trace_at u p) c.as_slice-in-loop-k.result.now c.loop-k.seen.items) i.seen.volume
          ∙ ap (λ (ns : Pairs). seen_each v.head (trace_at v p) ns c.loop-k.seen.items) c.as_slice-in-loop-k.ensures.value
          ∙ ap (λ (ss : List Seen). seen_each v.head (trace_at v p) c.args.names.items ss) (i.numbers (made.seen.reads.agreed sure))
          ∙ trace_seen v c.args.a c.loop-k.k c.args.names.items;
      each = made.each ∙ ap (λ (ns : Pairs). length ns) c.as_slice-in-loop-k.ensures.value;
      seen = seen_after c.args.overlay.now c.loop-k.overlay c.see_trace.new.overlay c.loop-k.k 1 i.seen made.seen;
      memory = grind arith;
    }

pub returns-clause-ok : goal.returns-clause-ok
returns-clause-ok c =
    let v : Volume = c.args.overlay.now.volume in
    if_sure c.shown.result
    (λ sure. ap (λ (ss : List Seen). shown_of c.args.names.items ss) (c.as_slice-2.ensures.value ∙ c.loop-k.invariant.numbers sure)
    ∙ shown_names v c.args.names.items c.args.a c.args.b c.loop-k.k (omega (arith, c.requires.range, c.loop-k-test.false, c.loop-k.auto.k-end)))
    c.shown.ensures.ok
