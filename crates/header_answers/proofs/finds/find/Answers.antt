use Rattle.std.proofs.Common.{◌+◌, ◌-◌, ◌∙◌, ap, inr, refl, sym, arith, rules}
use Rattle.std.proofs.lemmas.Int.{to_z-of_z}
use Rattle.std.specs.Int.{w128}
use mir.Val.{SFits}
use Rattle.bench_rules.specs.RangeFaults.{fault_of}
use Rattle.header_answers.proofs.FoundLemmas.{go_on, lacks, fault_left}
use Rattle.bench_rules.proofs.LookLemmas.{seen_after}
use Rattle.bench_rules.proofs.SeenLemmas.{seen_at_most}
use Rattle.header_answers.proofs.finds.find.Goals as goal

pub returns-in_default-clause-err : goal.returns-in_default-clause-err
returns-in_default-clause-err c = inr (λ sure.
    let low : SFits w128 c.args.low = search rules in
    let high : SFits w128 c.args.high = search rules in
    let i = c.loop-k.invariant in
    let made = c.in_ok-here.ensures in
    let far = rw (to_z-of_z w128 c.args.low low, to_z-of_z w128 c.args.high high) at (i.found (made.seen.reads.agreed sure)) in
    let none = sym c.in_default.is ∙ made.number sure in
    sym (ap (λ o. fault_of o) (lacks c.args.overlay.now.volume c.args.place c.args.low c.args.high c.args.a c.args.b c.loop-k.k c.loop-k.found.items (omega (arith, c.loop-k-test.true, c.requires.range)) (rw (i.seen.volume) at none) far)))

pub returns-then-not-keep-clause-err : goal.returns-then-not-keep-clause-err
returns-then-not-keep-clause-err c = inr (λ sure.
    let low : SFits w128 c.args.low = search rules in
    let high : SFits w128 c.args.high = search rules in
    let i = c.loop-k.invariant in
    let made = c.in_ok-here.ensures in
    let left = c.in_ok-without_memory.ensures in
    let before = left.seen.reads.agreed sure in
    let far = rw (to_z-of_z w128 c.args.low low, to_z-of_z w128 c.args.high high) at (i.found (made.seen.reads.agreed before)) in
    let number = sym c.in-Some.is ∙ made.number before in
    let fault = left.fault sure in
    (rw (made.seen.volume ∙ i.seen.volume) at fault)
    ∙ fault_left c.args.overlay.now.volume c.args.place c.args.low c.args.high c.args.a c.args.b c.loop-k.k c.in-Some.number c.loop-k.found.items (omega (arith, c.loop-k-test.true, c.requires.range)) (rw (i.seen.volume) at number) far)

pub returns-then-not-keep-clause-seen : goal.returns-then-not-keep-clause-seen
returns-then-not-keep-clause-seen c =
    let old = c.args.overlay.now in
    let k = c.loop-k.k in
    let one = seen_after old c.loop-k.overlay c.number_at.new.overlay k 1 c.loop-k.invariant.seen c.in_ok-here.ensures.seen in
    let rest = c.args.b - (c.args.a + k) in
    let all = seen_after old c.number_at.new.overlay c.without_memory.new.overlay (k + 1) rest one c.in_ok-without_memory.ensures.seen in
    seen_at_most old c.without_memory.new.overlay (k + 1 + rest) (c.args.b + 1 - c.args.a) all (omega (arith, c.loop-k-test.true, c.requires.range))

pub returns-then-not-keep-clause-memory : goal.returns-then-not-keep-clause-memory
returns-then-not-keep-clause-memory c =
    let kept = c.if-not-keep.ensures.memory in
    record {
      never_falls = omega (arith, c.loop-k.invariant.memory, kept.never_falls);
      rose = λ _. omega (arith, c.loop-k.invariant.memory, kept.rose refl);
    }

pub returns-then-not-keep-clause-reads_tell : goal.returns-then-not-keep-clause-reads_tell
returns-then-not-keep-clause-reads_tell c = c.in_ok-without_memory.ensures.rule c.args.overlay.now.reads c.without_memory.new.overlay.reads

pub loop-k-preserved : goal.loop-k-preserved
loop-k-preserved c =
    let low : SFits w128 c.args.low = search rules in
    let high : SFits w128 c.args.high = search rules in
    let fits : SFits w128 c.in-Some.number = search rules in
    let i = c.loop-k.invariant in
    let made = c.in_ok-here.ensures in
    let kept = c.if-not-keep.ensures.kept refl in
    record {
      found = λ sure.
          let number = sym c.in-Some.is ∙ made.number sure in
          let far = rw (to_z-of_z w128 c.args.low low, to_z-of_z w128 c.args.high high) at (i.found (made.seen.reads.agreed sure)) in
          rw (to_z-of_z w128 c.args.low low, to_z-of_z w128 c.args.high high) (go_on c.args.overlay.now.volume c.args.place c.args.low c.args.high c.args.a c.args.b c.loop-k.k c.in-Some.number c.loop-k.found.items c.keep.new.found.items (omega (arith, c.loop-k-test.true, c.requires.range)) (rw (i.seen.volume) at number)
          (rw (to_z-of_z w128 c.args.low low, to_z-of_z w128 c.args.high high, to_z-of_z w128 c.in-Some.number fits) at kept) far);
      seen = seen_after c.args.overlay.now c.loop-k.overlay c.number_at.new.overlay c.loop-k.k 1 i.seen made.seen;
      memory = grind arith;
    }
