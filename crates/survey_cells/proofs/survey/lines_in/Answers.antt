use Rattle.std.specs.Prelude.{◌≡◌, ◌+◌, ◌/◌, ◌-ℤ◌, unsigned_abs}
use Rattle.std.specs.Option.{option_map_or}
use Rattle.std.proofs.Common.{rules, sym, ap, ap₂, ◌∙◌}
use mir.Syntax.{w64}
use mir.Val.{SFits}
use Rattle.std.proofs.lemmas.Int.{to_z-of_z}
use Rattle.survey_cells.proofs.survey.lines_in.Goals as goal

pub returns-in-Some-clause-value : goal.returns-in-Some-clause-value
returns-in-Some-clause-value c =
    let span = c.args.span.now in
    let far = c.distance-distance.result in
    let ff : SFits w64 far = search rules in
    let fs : SFits w64 c.in-Some.step = search rules in
    let reach : c.unsigned_abs.result ≡ unsigned_abs (span.last -ℤ span.first) = c.unsigned_abs.ensures.value ∙ ap unsigned_abs (to_z-of_z w64 far ff ∙ c.distance-distance.ensures.value) in
    let step : c.unsigned_abs-in-Some.result ≡ unsigned_abs c.in-Some.step = c.unsigned_abs-in-Some.ensures.value ∙ ap unsigned_abs (to_z-of_z w64 c.in-Some.step fs) in
    ap (λ n. n + 1) (c.whole_steps.ensures.value ∙ ap₂ (λ u v. u / v) reach step)
    ∙ ap (λ o. option_map_or (λ s. unsigned_abs (span.last -ℤ span.first) / unsigned_abs s + 1) o 1) (sym c.in-Some.is)
