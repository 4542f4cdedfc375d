use Rattle.std.specs.Prelude.{option_map}
use Rattle.std.proofs.Common.{ap, ◌∙◌}
use Rattle.position_differences.specs.Commonest.{oftenest}
use Rattle.position_differences.proofs.CommonestLemmas.{shown_occur}
use Rattle.survey_cells.proofs.times.Times.commonest.Goals as goal

pub returns : goal.returns
returns c = λ ds counted. c.oftenest.ensures ∙ ap (λ es. option_map (λ e. e.0) (oftenest es)) (c.pairs.ensures.rest ∙ shown_occur ds _ c.pairs.ensures.rising c.pairs.ensures.positive counted)
