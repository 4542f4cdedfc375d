use Rattle.std.proofs.Common.{◌≡◌, ◌∙◌, ◌+◌, ◌*◌, IsTrue, length, inr, refl, sym, subst, arith, rules}
use Rattle.std.specs.Prelude.{slice_index}
use Rattle.frame_cut.specs.Traces.{is_trace}
use Rattle.frame_cut.specs.Volume.{Volume}
use Rattle.bench_rules.proofs.LookLemmas.{seen_after}
use Rattle.many_traces.proofs.ListedRowsLemmas.{listed_go_on, listed_stop, rising_trace}
use Rattle.many_traces.proofs.tables.listed_rows.Goals as goal

pub push_row-requires-clause-trace : goal.push_row-requires-clause-trace
push_row-requires-clause-trace c =
    subst (λ (v : Volume). IsTrue (is_trace v (slice_index c.args.traces.now c.loop-p.p-index))) (sym c.loop-p.invariant.seen.volume)
    (rising_trace c.args.overlay.now.volume c.args.traces.now c.loop-p.p-index 0 c.loop-p-test.true c.requires.rising)

pub returns-then-not-there-clause-err : goal.returns-then-not-there-clause-err
returns-then-not-there-clause-err c = inr (
  refl,
  λ sure.
      let i = c.loop-p.invariant in
      let made = c.in_ok-there.ensures in
      let lacks = sym c.if-not-there.true ∙ made.there sure in
      listed_stop c.args.overlay.now.volume c.args.places.now c.args.traces.now c.loop-p.p-index c.loop-p.numbers.items c.loop-p-test.true (i.rows (made.seen.reads.agreed sure)) (rw (i.seen.volume) at lacks),
)

pub loop-p-preserved : goal.loop-p-preserved
loop-p-preserved c =
    let i = c.loop-p.invariant in
    let made = c.in_ok-there.ensures in
    let more : length c.push_row.new.numbers.items ≡ length c.loop-p.numbers.items + length c.args.places.now = search rules in
    let step : length c.args.places.now * (c.loop-p.p-index + 1) ≡ length c.args.places.now * c.loop-p.p-index + length c.args.places.now = omega arith in
    record {
      rows = λ sure.
          let row = made.row sure c.if-not-there.false in
          listed_go_on c.args.overlay.now.volume c.args.places.now c.args.traces.now c.loop-p.p-index c.loop-p.numbers.items c.push_row.new.numbers.items c.loop-p-test.true (i.rows (made.seen.reads.agreed sure)) (rw (i.seen.volume) at row) more;
      full = omega (arith, more, step, i.full);
      room = search rules;
      seen = seen_after c.args.overlay.now c.loop-p.overlay c.push_row.new.overlay c.loop-p.p-index 1 i.seen made.seen;
    }
