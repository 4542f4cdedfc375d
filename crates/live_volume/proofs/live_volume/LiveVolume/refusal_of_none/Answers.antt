use Rattle.std.proofs.Common.{◌∙◌, ℤ, ap, sym, rules}
use Rattle.std.proofs.lemmas.Int.{to_z-of_z}
use Rattle.std.specs.Int.{w128}
use mir.Val.{SFits}
use Rattle.sample_codes.specs.Formats.{values}
use Rattle.bench_rules.specs.FilledSamples.{sample_value_refusal}
use Rattle.live_volume.proofs.ChosenLemmas.{empty_filled, empty_none}
use Rattle.live_volume.proofs.live_volume.LiveVolume.refusal_of_none.Goals as goal

pub returns-in-Fill-clause-refusal : goal.returns-in-Fill-clause-refusal
returns-in-Fill-clause-refusal c =
    let fit : SFits w128 c.in-Fill.value = search rules in
    rw c.in-Fill.is
    (c.sample_value_refusal.ensures.refusal
    ∙ ap (λ (x : ℤ). sample_value_refusal (values c.args.self.now.state.volume.head.format) x) (to_z-of_z w128 c.in-Fill.value fit)
    ∙ sym (empty_filled c.args.self.now.state c.in-Fill.first_sample c.in-Fill.last_sample c.in-Fill.value))

pub returns-in_default-clause-refusal : goal.returns-in_default-clause-refusal
returns-in_default-clause-refusal c = sym (empty_none c.args.self.now.state c.args.edit.now c.in_default.not-Fill)
