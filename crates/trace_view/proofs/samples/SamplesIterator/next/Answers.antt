use Rattle.std.proofs.Common.{rules, ◌≡◌, ◌-◌, ◌∷◌, sym, ◌∙◌, SFits}
use Rattle.std.specs.Int.{w128}
use Rattle.std.proofs.lemmas.Int.{to_z-of_z}
use Rattle.trace_view.specs.Values.{samples_in}
use Rattle.trace_view.proofs.SampleStepLemmas.{sample_read}
use Rattle.trace_view.proofs.samples.SamplesIterator.next.Goals as goal

pub returns-clause-steps : goal.returns-clause-steps
returns-clause-steps c =
    let fit : SFits w128 c.sample.result = search rules in
    let i = c.self.inside in
    rw (to_z-of_z w128 c.sample.result fit)
    (sym c.self.view_is ∙ sample_read i.order i.format i.left i.cursor c.sample.new.self c.sample.result c.if-self-eq0.false c.sample.ensures.number c.sample.ensures.rest)

pub returns-clause-goes : goal.returns-clause-goes
returns-clause-goes c =
    let i = c.self.inside in
    let step : c.args.self.now ≡ c.sample.result ∷ samples_in i.order i.format (i.left - 1) c.sample.new.self =
    sym c.self.view_is ∙ sample_read i.order i.format i.left i.cursor c.sample.new.self c.sample.result c.if-self-eq0.false c.sample.ensures.number c.sample.ensures.rest in
    rw step (search rules)
