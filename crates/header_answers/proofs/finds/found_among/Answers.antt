use Rattle.std.proofs.Common.{◌∙◌, IsTrue, inr, refl, sym, subst, arith, rules}
use Rattle.std.proofs.lemmas.Int.{to_z-of_z}
use Rattle.std.specs.Int.{w128}
use Rattle.std.specs.Prelude.{slice_index_or}
use mir.Val.{SFits}
use Rattle.frame_cut.specs.Traces.{is_trace}
use Rattle.frame_cut.specs.Volume.{Volume}
use Rattle.bench_rules.proofs.LookLemmas.{seen_after}
use Rattle.bench_rules.proofs.SeenLemmas.{seen_at_most}
use Rattle.header_answers.proofs.FoundLemmas.{listed_go_on, listed_lacks, listed_found}
use Rattle.bench_rules.proofs.RisingLemmas.{rising_trace}
use Rattle.room.proofs.RiseLemmas.{risen}
use Rattle.header_answers.proofs.finds.found_among.Goals as goal

pub number_at-requires : goal.number_at-requires
number_at-requires c =
    subst (λ (v : Volume). IsTrue (is_trace v (slice_index_or c.args.traces.now c.loop-p.p-index 0))) (sym c.loop-p.invariant.seen.volume)
    (rising_trace c.args.overlay.now.volume c.args.traces.now c.loop-p.p-index 0 c.loop-p-test.true c.requires)

pub returns-in_default-clause-err : goal.returns-in_default-clause-err
returns-in_default-clause-err c = inr (inr (
  refl,
  λ sure.
      let low : SFits w128 c.args.low = search rules in
      let high : SFits w128 c.args.high = search rules in
      let i = c.loop-p.invariant in
      let made = c.in_ok-here.ensures in
      let far = rw (to_z-of_z w128 c.args.low low, to_z-of_z w128 c.args.high high) at (i.found (made.seen.reads.agreed sure)) in
      let none = sym c.in_default.is ∙ made.number sure in
      listed_lacks c.args.overlay.now.volume c.args.place c.args.low c.args.high c.args.traces.now c.loop-p.p-index 0 c.loop-p.found.items c.loop-p-test.true (rw (i.seen.volume) at none) far,
))

pub returns-then-not-keep-clause-seen : goal.returns-then-not-keep-clause-seen
returns-then-not-keep-clause-seen c =
    seen_at_most _ _ _ _ (seen_after c.args.overlay.now c.loop-p.overlay c.number_at.new.overlay c.loop-p.p-index 1 c.loop-p.invariant.seen c.in_ok-here.ensures.seen) (omega (arith, c.loop-p-test.true))

pub returns-then-not-keep-clause-memory : goal.returns-then-not-keep-clause-memory
returns-then-not-keep-clause-memory c =
    let kept = c.if-not-keep.ensures.memory in
    risen _ _ c.loop-p.room _ c.loop-p.invariant.memory (record { never_falls = kept.never_falls; rose = λ _. kept.rose refl })

pub loop-p-preserved : goal.loop-p-preserved
loop-p-preserved c =
    let low : SFits w128 c.args.low = search rules in
    let high : SFits w128 c.args.high = search rules in
    let fits : SFits w128 c.in-Some.number = search rules in
    let i = c.loop-p.invariant in
    let made = c.in_ok-here.ensures in
    let kept = c.if-not-keep.ensures.kept refl in
    record {
      found = λ sure.
          let number = sym c.in-Some.is ∙ made.number sure in
          let far = rw (to_z-of_z w128 c.args.low low, to_z-of_z w128 c.args.high high) at (i.found (made.seen.reads.agreed sure)) in
          rw (to_z-of_z w128 c.args.low low, to_z-of_z w128 c.args.high high) (listed_go_on c.args.overlay.now.volume c.args.place c.args.low c.args.high c.args.traces.now c.loop-p.p-index 0 c.in-Some.number c.loop-p.found.items c.keep.new.found.items c.loop-p-test.true (rw (i.seen.volume) at number)
          (rw (to_z-of_z w128 c.args.low low, to_z-of_z w128 c.args.high high, to_z-of_z w128 c.in-Some.number fits) at kept) far);
      seen = seen_after c.args.overlay.now c.loop-p.overlay c.number_at.new.overlay c.loop-p.p-index 1 i.seen made.seen;
      memory = grind arith;
    }

pub returns-clause-ok : goal.returns-clause-ok
returns-clause-ok c = λ sure.
    let low : SFits w128 c.args.low = search rules in
    let high : SFits w128 c.args.high = search rules in
    let far = rw (to_z-of_z w128 c.args.low low, to_z-of_z w128 c.args.high high) at (c.loop-p.invariant.found sure) in
    listed_found c.args.overlay.now.volume c.args.place c.args.low c.args.high c.args.traces.now c.loop-p.p-index c.loop-p.found.items (omega (arith, c.loop-p-test.false)) far
    ∙ search rules
