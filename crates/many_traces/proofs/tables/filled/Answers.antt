use Rattle.std.proofs.Common.{◌≡◌, ◌∙◌, ◌+◌, ◌-◌, ◌*◌, ℕ, ℤ, List, All, length, inr, refl, sym, ap, subst, arith, rules}
use Rattle.bench_rules.proofs.LookLemmas.{seen_after}
use Rattle.many_traces.proofs.RowsLemmas.{rows_counted, rows_go_on, rows_stop, rows_wide}
use Rattle.many_traces.proofs.tables.filled.Goals as goal

pub returns-then-not-there-clause-err : goal.returns-then-not-there-clause-err
returns-then-not-there-clause-err c = inr (λ sure.
    let i = c.loop-k.invariant in
    let made = c.in_ok-there.ensures in
    let lacks = sym c.if-not-there.true ∙ made.there sure in
    (refl, rows_stop c.args.overlay.now.volume c.args.places.now c.args.a c.args.b c.loop-k.k c.loop-k.numbers.items (omega (arith, c.loop-k-test.true, c.requires.range)) (i.rows (made.seen.reads.agreed sure)) (rw (i.seen.volume) at lacks)))

pub loop-k-preserved : goal.loop-k-preserved
loop-k-preserved c =
    let i = c.loop-k.invariant in
    let made = c.in_ok-there.ensures in
    let more : length c.push_row.new.numbers.items ≡ length c.loop-k.numbers.items + length c.args.places.now = search rules in
    let step : length c.args.places.now * (c.loop-k.k + 1) ≡ length c.args.places.now * c.loop-k.k + length c.args.places.now = omega arith in
    record {
      rows = λ sure.
          let row = made.row sure c.if-not-there.false in
          rows_go_on c.args.overlay.now.volume c.args.places.now c.args.a c.args.b c.loop-k.k c.loop-k.numbers.items c.push_row.new.numbers.items (omega (arith, c.loop-k-test.true, c.requires.range)) (i.rows (made.seen.reads.agreed sure)) (rw (i.seen.volume) at row) more;
      full = omega (arith, more, step, i.full);
      room = search rules;
      seen = seen_after c.args.overlay.now c.loop-k.overlay c.push_row.new.overlay c.loop-k.k 1 i.seen made.seen;
    }

pub returns-clause-count : goal.returns-clause-count
returns-clause-count c =
    ap (λ (rows : List (ℕ × List ℤ)). length rows) c.new.ensures
    ∙ (rows_counted c.args.a (c.args.b - c.args.a + 1) (length c.args.places.now) c.loop-k.numbers.items ∙ omega (arith, c.requires.range))

pub returns-clause-wide : goal.returns-clause-wide
returns-clause-wide c =
    let n : ℕ = c.args.b - c.args.a + 1 in
    let w : ℕ = length c.args.places.now in
    let xs : List ℤ = c.loop-k.numbers.items in
    let done : c.loop-k.k ≡ n = omega (arith, c.loop-k-test.false, c.loop-k.auto.k-end, c.requires.range) in
    let full : length xs ≡ w * n = c.loop-k.invariant.full ∙ ap (λ (m : ℕ). w * m) done in
    subst (λ (rows : List (ℕ × List ℤ)). All (λ (row : ℕ × List ℤ). length row.1 ≡ w) rows) (sym c.new.ensures) (rows_wide c.args.a n w xs full)
