use Rattle.std.proofs.Common.{◌≡◌, ◌+◌, ◌-◌, ◌*◌, ℕ, ℤ, sym, subst, rules, arith}
use borrow.Author.Count.{below_more}
use Rattle.std.proofs.lemmas.Int.{to_z-of_z}
use Rattle.std.specs.Int.{w128}
use mir.Val.{SFits}
use Rattle.num_order.specs.Number.{InRange}
use Rattle.frame_cut.specs.Traces.{trace_at}
use Rattle.bench_rules.specs.Computed.{Formula}
use Rattle.many_traces.specs.Fields.{HoldsPlace}
use Rattle.bench_rules.proofs.LookLemmas.{seen_after}
use Rattle.many_traces.proofs.NumbersLemmas.{one_more, refused_or_read, none_refused, all_bytes, room_left}
use Rattle.bench_rules.proofs.ReadTellLemmas.{edit_before}
use Rattle.many_traces.proofs.computed.filled.Goals as goal

pub push_number-requires-clause-fits : goal.push_number-requires-clause-fits
push_number-requires-clause-fits c =
    let fits : SFits w128 c.in-Ok.number = search rules in
    subst (λ (x : ℤ). InRange c.args.place.kind x) (sym (to_z-of_z w128 c.in-Ok.number fits)) c.in-Ok.ensures.fits

pub returns-in-Err-clause-err : goal.returns-in-Err-clause-err
returns-in-Err-clause-err c =
    let i = c.loop-k.invariant in
    let f : Formula = record { place = c.args.place; source = c.args.source; steps = c.args.steps.now } in
    refused_or_read c.args.overlay.now.volume f c.args.a c.args.b c.loop-k.k c.in-Err.refusal (rw (i.seen.volume, i.seen.loaded) at c.in-Err.ensures.err) (λ sure. (i.far (c.number_at.ensures.seen.reads.agreed sure)).none) (omega (arith, c.loop-k-test.true, c.requires.range))

pub loop-k-preserved : goal.loop-k-preserved
loop-k-preserved c =
    let fits : SFits w128 c.in-Ok.number = search rules in
    let f : Formula = record { place = c.args.place; source = c.args.source; steps = c.args.steps.now } in
    let v = c.args.overlay.now.volume in
    let i = c.loop-k.invariant in
    let made = c.in-Ok.ensures in
    let joined = rw (i.order, to_z-of_z w128 c.in-Ok.number fits) at c.push_number.ensures.bytes in
    let left = room_left c.args.place.kind.size (c.args.b + 1 - c.args.a - (c.loop-k.k + 1)) (c.args.b + 1 - c.args.a - c.loop-k.k) (omega (arith, c.loop-k-test.true, c.requires.range)) in
    let step : c.args.place.kind.size * (c.loop-k.k + 1) ≡ c.args.place.kind.size * c.loop-k.k + c.args.place.kind.size = omega arith in
    record {
      far = λ sure.
          let none = rw (i.seen.volume) at (made.none sure) in
          let number = rw (i.seen.volume) at (made.number sure) in
          one_more v f c.args.a c.loop-k.k c.in-Ok.number c.loop-k.bytes.items c.push_number.new.bytes.items (i.far (made.seen.reads.agreed sure)) none number joined;
      count = omega (arith, step, i.count, c.push_number.ensures.count);
      each =
          let here = rw (i.seen.volume) at made.place in
          below_more (λ (j : ℕ). HoldsPlace (trace_at v (c.args.a + j)) c.args.place) c.loop-k.k i.each here;
      room = omega (arith, left, i.room, c.push_number.ensures.count, c.push_number.ensures.room);
      order = search rules;
      seen = seen_after c.args.overlay.now c.loop-k.overlay c.number_at.new.overlay c.loop-k.k 1 i.seen made.seen;
    }

pub returns-clause-none : goal.returns-clause-none
returns-clause-none c = λ sure.
    none_refused c.args.overlay.now.volume (record { place = c.args.place; source = c.args.source; steps = c.args.steps.now }) c.args.a c.args.b
    (λ i less. (c.loop-k.invariant.far sure).none i (omega (arith, less, c.loop-k-test.false, c.requires.range)))

pub returns-clause-bytes : goal.returns-clause-bytes
returns-clause-bytes c = λ sure.
    let n : c.loop-k.k ≡ c.args.b + 1 - c.args.a = omega (arith, c.loop-k-test.false, c.loop-k.auto.k-end, c.requires.range) in
    all_bytes c.args.overlay.now.volume (record { place = c.args.place; source = c.args.source; steps = c.args.steps.now }) c.args.a c.args.b c.loop-k.bytes.items
    (rw n at (c.loop-k.invariant.far sure))

pub returns-clause-each : goal.returns-clause-each
returns-clause-each c = λ j less. c.loop-k.invariant.each j (omega (arith, less, c.loop-k-test.false, c.requires.range))

pub returns-in-Err-clause-reads_tell : goal.returns-in-Err-clause-reads_tell
returns-in-Err-clause-reads_tell c =
    edit_before c.args.overlay.now.reads c.loop-k.overlay.reads c.number_at.new.overlay.reads c.in-Err.refusal c.loop-k.invariant.seen.reads c.in-Err.ensures.reads_tell
