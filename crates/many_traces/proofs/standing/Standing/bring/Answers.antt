use Rattle.std.proofs.Common.{◌≡◌, ◌≢◌, ◌∙◌, ◌<◌, length, arith}
use Rattle.std.specs.Prelude.{slice_index}
use Rattle.std.proofs.lemmas.List.{get_or_default}
use Rattle.many_traces.proofs.ExchangeLemmas.{stays-in-step}
use Rattle.many_traces.proofs.standing.Standing.bring.Goals as goal

pub returns-in_ok-told_back-clause-step : goal.returns-in_ok-told_back-clause-step
returns-in_ok-told_back-clause-step c =
    let inside : c.args.item < length c.args.self.now.places.items = omega (arith, c.requires.item, c.requires.step.long) in
    let from : c.index-from.result.now ≡ slice_index c.args.self.now.places.items c.args.item = c.index-from.ensures ∙ get_or_default c.args.self.now.places.items c.args.item _ 0 inside in
    let other : c.index-other.result.now ≡ slice_index c.args.self.now.items.items c.args.place = c.index-other.ensures ∙ get_or_default c.args.self.now.items.items c.args.place _ 0 c.requires.place in
    let moves : slice_index c.args.self.now.places.items c.args.item ≢ c.args.place = λ e. c.if-from-place.true (from ∙ e) in
    rw (rw c.in_ok-told_back.ensures.ok at c.push.ensures.items, other, from)
    (stays-in-step c.args.self.now.first c.args.place c.args.item c.args.self.now.items.items c.args.self.now.places.items c.args.self.now.pairs.items c.requires.step c.requires.place c.requires.item moves)
