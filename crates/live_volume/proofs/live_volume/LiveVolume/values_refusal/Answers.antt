use Rattle.std.proofs.Common.{◌≡◌, ◌∙◌, ◌+◌, ◌-◌, ◌≤◌, ap, sym, refl, true, arith, rules}
use Rattle.std.proofs.lemmas.Bool.{le-leb}
use Rattle.std.proofs.lemmas.Int.{to_z-of_z}
use Rattle.std.specs.Int.{w128}
use mir.Val.{SFits}
use Rattle.frame_cut.specs.Traces.{count_of, is_trace}
use Rattle.bench_rules.specs.Places.{leaves_length}
use Rattle.bench_rules.specs.State.{State}
use Rattle.live_volume.proofs.HeldLemmas.{looks_more, looks_most, looks_none, looks_unless}
use Rattle.live_volume.proofs.ManyTracesLemmas.{none_yet, none_again, told_at, told_none, told_some}
use Rattle.live_volume.proofs.live_volume.LiveVolume.values_refusal.Goals as goal

pub returns-then-leaves_length-clause-seen : goal.returns-then-leaves_length-clause-seen
returns-then-leaves_length-clause-seen c = rw (sym c.leaves_length.ensures.place ∙ c.if-leaves_length.true) (looks_none _)

pub loop-k-init : goal.loop-k-init
loop-k-init c = none_yet _ _ _ _ _

pub value_refusal-requires : goal.value_refusal-requires
value_refusal-requires c =
    let s : State = c.args.self.now.state in
    let p = c.args.a + c.loop-k.k in
    let first : 1 ≤ p = omega (arith, c.requires.first) in
    let last : p ≤ count_of s.volume = omega (arith, c.requires.range, c.requires.last, c.loop-k-test.true) in
    let here : is_trace s.volume p ≡ true = rw (le-leb 1 p first, le-leb p (count_of s.volume) last) refl in
    ap (λ (u : State). is_trace u.volume p) c.loop-k.invariant.seen.state ∙ here

pub returns-then-is_some-clause-refusal : goal.returns-then-is_some-clause-refusal
returns-then-is_some-clause-refusal c =
    let first : SFits w128 c.args.first = search rules in
    let step : SFits w128 c.args.step = search rules in
    let told = told_at _ _ c.value_refusal.new.self _ _ c.args.b _ _ _ c.in_ok-refusal.refusal c.requires.first c.requires.last c.loop-k.invariant (omega (arith, c.requires.range, c.loop-k-test.true))
    (sym c.is_some.ensures ∙ c.if-is_some.true) c.value_refusal.ensures.seen c.in_ok-refusal.ensures.refusal in
    rw (to_z-of_z w128 c.args.first first, to_z-of_z w128 c.args.step step) at told

pub returns-then-is_some-clause-each : goal.returns-then-is_some-clause-each
returns-then-is_some-clause-each c = told_some c.in_ok-refusal.refusal (sym c.is_some.ensures ∙ c.if-is_some.true)

pub returns-then-is_some-clause-fit : goal.returns-then-is_some-clause-fit
returns-then-is_some-clause-fit c = told_some c.in_ok-refusal.refusal (sym c.is_some.ensures ∙ c.if-is_some.true)

pub returns-then-is_some-clause-seen : goal.returns-then-is_some-clause-seen
returns-then-is_some-clause-seen c =
    looks_unless (leaves_length c.args.place) _ _ (c.args.b + 1 - c.args.a) (sym c.leaves_length.ensures.place ∙ c.if-leaves_length.false)
    (looks_most _ _ (c.loop-k.k + 1) _ (looks_more _ _ _ c.loop-k.k 1 c.loop-k.invariant.seen c.value_refusal.ensures.seen) (omega (arith, c.requires.range, c.loop-k-test.true)))

pub returns-in_err-refusal-clause-seen : goal.returns-in_err-refusal-clause-seen
returns-in_err-refusal-clause-seen c =
    looks_unless (leaves_length c.args.place) _ _ (c.args.b + 1 - c.args.a) (sym c.leaves_length.ensures.place ∙ c.if-leaves_length.false)
    (looks_most _ _ (c.loop-k.k + 1) _ (looks_more _ _ _ c.loop-k.k 1 c.loop-k.invariant.seen c.value_refusal.ensures.seen) (omega (arith, c.requires.range, c.loop-k-test.true)))

pub loop-k-preserved : goal.loop-k-preserved
loop-k-preserved c =
    none_again _ _ c.value_refusal.new.self _ _ _ _ _ c.in_ok-refusal.refusal c.loop-k.invariant (sym c.is_some.ensures ∙ c.if-is_some.false)
    c.in_ok-refusal.ensures.refusal c.in_ok-refusal.ensures.each c.in_ok-refusal.ensures.fit c.value_refusal.ensures.seen

pub returns-clause-refusal : goal.returns-clause-refusal
returns-clause-refusal c =
    let first : SFits w128 c.args.first = search rules in
    let step : SFits w128 c.args.step = search rules in
    let told = told_none _ _ _ _ c.args.b _ _ _ c.requires.first c.requires.range c.requires.last c.loop-k.invariant (omega (arith, c.requires.range, c.loop-k.auto.k-end, c.loop-k-test.false)) in
    rw (to_z-of_z w128 c.args.first first, to_z-of_z w128 c.args.step step) at told

pub returns-clause-each : goal.returns-clause-each
returns-clause-each c = λ none k less. c.loop-k.invariant.each k (omega (arith, less, c.requires.range, c.loop-k.auto.k-end, c.loop-k-test.false))

pub returns-clause-fit : goal.returns-clause-fit
returns-clause-fit c =
    let first : SFits w128 c.args.first = search rules in
    let step : SFits w128 c.args.step = search rules in
    let fit = rw (to_z-of_z w128 c.args.first first, to_z-of_z w128 c.args.step step) at c.loop-k.invariant.fit in
    λ none k less. fit k (omega (arith, less, c.requires.range, c.loop-k.auto.k-end, c.loop-k-test.false))

pub returns-clause-seen : goal.returns-clause-seen
returns-clause-seen c =
    looks_unless (leaves_length c.args.place) _ _ (c.args.b + 1 - c.args.a) (sym c.leaves_length.ensures.place ∙ c.if-leaves_length.false)
    (looks_most _ _ c.loop-k.k _ c.loop-k.invariant.seen (omega (arith, c.requires.range, c.loop-k.auto.k-end)))
