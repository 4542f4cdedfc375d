use Rattle.std.proofs.Common.{length, inr, sym, subst, arith}
use Rattle.frame_cut.specs.Traces.{count_of}
use Rattle.bench_rules.specs.ManyTraces.{each_of}
use Rattle.bench_rules.specs.Places.{place_in_trace}
use Rattle.bench_rules.specs.Refused.{sort_refusal}
use Rattle.bench_rules.specs.declared.refusal.Refusal.{Refusal}
use Rattle.many_traces.specs.Formulas.{IsRefusalFor}
use Rattle.bench_rules.proofs.LookLemmas.{if_err}
use Rattle.many_traces.proofs.NumbersLemmas.{memory_is}
use Rattle.many_traces.proofs.SortedTraceLemmas.{is-table, table-sorts, sort-free, put-places, told-either, if_ok}
use Rattle.bench_rules.proofs.ReadTellLemmas.{memory_tells, sort_tells}
use Rattle.many_traces.proofs.sort.exchanges_to_sort.Goals as goal

pub exchanges_of-requires-clause-wide : goal.exchanges_of-requires-clause-wide
exchanges_of-requires-clause-wide c = (length c.args.fields.now, c.in-Ok.ensures.wide)

pub exchanges_of-requires-clause-last : goal.exchanges_of-requires-clause-last
exchanges_of-requires-clause-last c = omega (arith, c.in-Ok.ensures.count, c.requires.range, c.ranges.b.fits)

pub returns-in-Ok-clause-ok : goal.returns-in-Ok-clause-ok
returns-in-Ok-clause-ok c =
    let v = c.args.overlay.now.volume in
    let places = each_of (place_in_trace c.args.map.now.pairs) c.args.fields.now in
    if_ok c.exchanges_of.result
    (λ pairs r sure. table-sorts v c.args.a c.args.b places c.args.falling.now c.in-Ok.table pairs.items (is-table v c.args.a c.args.b places c.in-Ok.table (c.in-Ok.ensures.ok sure)) r c.requires.first c.requires.range)
    c.exchanges_of.ensures.ok

pub returns-in-Ok-clause-places : goal.returns-in-Ok-clause-places
returns-in-Ok-clause-places c =
    let n = count_of c.args.overlay.now.volume in
    if_ok c.exchanges_of.result
    (λ pairs r. put-places c.args.a n c.in-Ok.table c.args.falling.now pairs.items r (omega (arith, c.in-Ok.ensures.count, c.requires.first, c.requires.range, c.requires.last)))
    c.exchanges_of.ensures.ok

pub returns-in-Ok-clause-err : goal.returns-in-Ok-clause-err
returns-in-Ok-clause-err c =
    let v = c.args.overlay.now.volume in
    let places = each_of (place_in_trace c.args.map.now.pairs) c.args.fields.now in
    if_err c.exchanges_of.result
    (λ refusal e. inr (λ sure. subst (λ (r : Refusal). IsRefusalFor r (sort_refusal v c.args.a c.args.b places)) (sym e)
    (memory_is (sort_refusal v c.args.a c.args.b places) (sort-free v c.args.a c.args.b places c.in-Ok.table (c.in-Ok.ensures.ok sure)))))
    c.exchanges_of.ensures.err

pub returns-in-Err-clause-err : goal.returns-in-Err-clause-err
returns-in-Err-clause-err c =
    let places = each_of (place_in_trace c.args.map.now.pairs) c.args.fields.now in
    rw c.refusal_for.ensures (told-either c.args.overlay.now.volume c.args.a c.args.b places c.args.overlay.now.loaded.on_disk c.in-Err.fault c.in-Err.ensures.err)

pub returns-in-Ok-clause-reads_tell : goal.returns-in-Ok-clause-reads_tell
returns-in-Ok-clause-reads_tell c = if_err c.exchanges_of.result (λ refusal e. memory_tells c.args.overlay.now.reads c.table.new.overlay.reads refusal e) c.exchanges_of.ensures.err

pub returns-in-Err-clause-reads_tell : goal.returns-in-Err-clause-reads_tell
returns-in-Err-clause-reads_tell c = rw c.refusal_for.ensures (sort_tells c.args.overlay.now.reads c.table.new.overlay.reads c.in-Err.fault c.in-Err.ensures.reads_tell)
