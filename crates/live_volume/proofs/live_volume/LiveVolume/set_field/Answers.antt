use Rattle.std.proofs.Common.{ℤ, sym, subst, ◌∙◌, rules}
use Rattle.std.proofs.lemmas.Int.{to_z-of_z}
use Rattle.std.specs.Int.{w128}
use mir.Val.{SFits}
use Rattle.bench_rules.specs.declared.edit.Edit.TheVariants.{Set}
use Rattle.bench_rules.specs.declared.field.Field.TheVariants as field
use Rattle.bench_rules.specs.Steps.{Step}
use Rattle.bench_rules.proofs.HeaderEditLemmas.{same_step}
use Rattle.live_volume.proofs.live_volume.LiveVolume.set_field.Goals as goal

pub returns-in-Some-clause-step : goal.returns-in-Some-clause-step
returns-in-Some-clause-step c =
    let fit : SFits w128 c.args.value = search rules in
    λ sure. same_step c.args.self.now.state c.args.p c.args.field.now c.in-Some.place c.args.value c.set.new.self.state c.set.result (sym c.place_in_trace.ensures ∙ c.in-Some.is)
    (subst (λ (x : ℤ). Step c.args.self.now.state (Set c.args.p (field.Place c.in-Some.place) x) c.set.result c.set.new.self.state) (to_z-of_z w128 c.args.value fit) (c.set.ensures.step sure))
