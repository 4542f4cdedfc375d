use Rattle.std.proofs.Common.{◌≡◌, ◌∙◌, refl, sym, ap, rules}
use Rattle.field_map.specs.Pairs.{Pairs, bound}
use Rattle.volume_records.specs.OfVolume.{records_of}
use Rattle.volume_records.proofs.NameLemmas.{records-bound}
use Rattle.live_volume.specs.Held.{state_of}
use Rattle.bench_rules.proofs.HeaderEditLemmas.{map_refused}
use Rattle.live_volume.proofs.live_volume.LiveVolume.bind_name.Goals as goal

pub returns-in_err-bind-clause-step : goal.returns-in_err-bind-clause-step
returns-in_err-bind-clause-step c =
    rw (← c.self.view_is)
    (λ sure. map_refused (state_of c.self.inside) _ c.args.name.now c.args.place c.in_err-bind.field-0.0 c.from_residual.result (rw c.in_err-bind.ensures.err refl) c.from_residual.ensures.0 c.from_residual.ensures.1
    (rw (c.as_str.ensures, c.self.invariant.extensions) at c.in_err-bind.ensures.fault))

pub invariant_of-self-2 : goal.invariant_of-self-2
invariant_of-self-2 c =
    let v = c.self.inside.overlay.volume in
    let old : Pairs = c.self.inside.fields.pairs in
    let new : c.bind.new.self.pairs ≡ bound old c.args.name.now c.args.place = c.in_ok-bind.ensures.ok.1 ∙ ap (λ n. bound old n c.args.place) c.as_str.ensures in
    record {
      cut = c.self.invariant.cut;
      frame = c.self.invariant.frame;
      prepared = search rules;
      extensions = c.in_ok-bind.ensures.extensions ∙ c.self.invariant.extensions;
      records = λ sure. c.self.invariant.records sure ∙ sym (ap (λ (ps : Pairs). records_of v ps) new ∙ records-bound v old c.args.name.now c.args.place c.requires);
      measured = c.self.invariant.measured;
      reports = search rules;
    }
