use Rattle.std.proofs.Common.{◌∙◌, sym}
use Rattle.bench_rules.proofs.HeaderEditLemmas.{map_placed}
use Rattle.live_volume.proofs.live_volume.LiveVolume.bind.Goals as goal

pub returns-in-Some-clause-step : goal.returns-in-Some-clause-step
returns-in-Some-clause-step c = λ sure.
    map_placed {T = Unit {0}} c.args.self.now.state c.bind_to.new.self.state c.args.name.now c.args.field.now c.in-Some.place c.bind_to.result (sym c.place_in_trace.ensures ∙ c.in-Some.is) (c.bind_to.ensures.step sure)
