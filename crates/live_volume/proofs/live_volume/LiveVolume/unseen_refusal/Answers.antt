use Rattle.std.proofs.Common.{◌≡◌, ◌∙◌, ◌-◌, ◌&&◌, sym, rules}
use Rattle.std.proofs.lemmas.Int.{to_z-of_z}
use Rattle.std.specs.Int.{w128}
use mir.Val.{SFits}
use Rattle.num_order.specs.Number.{fits}
use Rattle.bench_rules.specs.TraceEdits.{counted}
use Rattle.bench_rules.proofs.SetLemmas.{both}
use Rattle.live_volume.proofs.CountedLemmas.{all_fit, each_holds, none_refuses, one_refused}
use Rattle.live_volume.proofs.live_volume.LiveVolume.unseen_refusal.Goals.{After-ends_fit}
use Rattle.live_volume.proofs.live_volume.LiveVolume.unseen_refusal.Goals as goal

-- the first and the last value fit, or not
ends : (c : After-ends_fit) → c.ends_fit.result ≡ (fits c.args.place.kind c.args.first && fits c.args.place.kind (counted c.args.first c.args.step (c.args.b - c.args.a)))
ends c =
    let first : SFits w128 c.args.first = search rules in
    let step : SFits w128 c.args.step = search rules in
    rw (to_z-of_z w128 c.args.first first, to_z-of_z w128 c.args.step step) at c.ends_fit.ensures

pub returns-then-ends_fit-clause-refusal : goal.returns-then-ends_fit-clause-refusal
returns-then-ends_fit-clause-refusal c =
    let fit = both _ _ (sym (ends c.before) ∙ c.if-ends_fit.true) in
    λ sure. sym (none_refuses c.args.self.now.state c.args.a c.args.b c.args.place c.args.first c.args.step (c.stands.ensures.cut sure) c.requires.first c.requires.range c.requires.last c.requires.place fit.0 fit.1)

pub returns-then-ends_fit-clause-each : goal.returns-then-ends_fit-clause-each
returns-then-ends_fit-clause-each c = each_holds c.args.self.now.state.volume c.args.a c.args.b c.args.place c.requires.first c.requires.last c.stands.ensures.headers c.requires.place

pub returns-then-ends_fit-clause-fit : goal.returns-then-ends_fit-clause-fit
returns-then-ends_fit-clause-fit c =
    let fit = both _ _ (sym (ends c.before) ∙ c.if-ends_fit.true) in
    λ none. all_fit c.args.place c.args.first c.args.step c.args.a c.args.b c.requires.range fit.0 fit.1

pub returns-else-ends_fit-clause-refusal : goal.returns-else-ends_fit-clause-refusal
returns-else-ends_fit-clause-refusal c = λ sure.
    sym (one_refused c.args.self.now.state c.args.a c.args.b c.args.place c.args.first c.args.step (c.stands.ensures.cut sure) c.requires.first c.requires.range c.requires.last c.requires.place (sym (ends c.before) ∙ c.if-ends_fit.false))

pub returns-else-ends_fit-clause-each : goal.returns-else-ends_fit-clause-each
returns-else-ends_fit-clause-each c = each_holds c.args.self.now.state.volume c.args.a c.args.b c.args.place c.requires.first c.requires.last c.stands.ensures.headers c.requires.place
