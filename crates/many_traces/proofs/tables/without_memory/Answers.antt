use Rattle.std.proofs.Common.{◌∙◌, sym, arith}
use Rattle.bench_rules.specs.Tables.{table_of}
use Rattle.bench_rules.proofs.LookLemmas.{seen_after}
use Rattle.many_traces.proofs.RowsLemmas.{left_goes_on, left_stops, fault_none}
use Rattle.many_traces.proofs.tables.without_memory.Goals as goal

pub returns-then-not-there-clause-fault : goal.returns-then-not-there-clause-fault
returns-then-not-there-clause-fault c = λ sure places known.
    let i = c.loop-k.invariant in
    let made = c.in_ok-there.ensures in
    let lacks = sym c.if-not-there.true ∙ made.there sure in
    fault_none (table_of c.args.overlay.now.volume places c.args.a c.args.b)
    (i.left (made.seen.reads.agreed sure) places known
    ∙ left_stops c.args.overlay.now.volume c.args.map.now.pairs c.args.fields.now places c.args.a c.args.b c.loop-k.k known (omega (arith, c.loop-k-test.true, c.requires.range)) (rw (i.seen.volume) at lacks))

pub loop-k-preserved : goal.loop-k-preserved
loop-k-preserved c =
    let i = c.loop-k.invariant in
    let made = c.in_ok-there.ensures in
    record {
      left = λ sure places known.
          let there = sym c.if-not-there.false ∙ made.there sure in
          i.left (made.seen.reads.agreed sure) places known
          ∙ left_goes_on c.args.overlay.now.volume c.args.map.now.pairs c.args.fields.now places c.args.a c.args.b c.loop-k.k known (omega (arith, c.loop-k-test.true, c.requires.range)) (rw (i.seen.volume) at there);
      seen = seen_after c.args.overlay.now c.loop-k.overlay c.has_row.new.overlay c.loop-k.k 1 i.seen made.seen;
    }
