use Rattle.std.specs.Prelude.{map}
use Rattle.std.proofs.Common.{rules, ap, ◌∙◌, List}
use Rattle.std.proofs.lemmas.List.Elements.{filter_from_retain}
use Rattle.std.proofs.lemmas.List.Sorted.{answers_always}
use Rattle.cell_positions.specs.InOrder.{in_order}
use Rattle.cell_positions.specs.Jumps.{trace_pair_cmp}
use Rattle.cell_positions.specs.Shared.{placed_cmp, sharing}
use Rattle.survey_cells.specs.declared.cells.SurveyCell.{SurveyCell}
use Rattle.survey_cells.specs.Standing.{is_standing, standing_in}
use Rattle.survey_cells.proofs.PairOrderLemmas.{sorted_pairs}
use Rattle.survey_cells.proofs.PlacedLemmas.{sorted_standing}
use Rattle.survey_cells.proofs.shared.find_shared.Goals as goal

pub returns-clause-pairs : goal.returns-clause-pairs
returns-clause-pairs c =
    let kept = filter_from_retain _ is_standing (λ f x b g called. search rules) _ _ _ c.retain.ensures.filtered in
    let sorted = c.sort_unstable_by_key.ensures.sorted (λ (d : SurveyCell). (d.x, (d.y, d.trace))) (answers_always _ _ _ (λ f a r g called. search rules)) in
    let placed = sorted_standing _ _ c.sort_unstable_by_key.ensures.permutation sorted in
    sorted_pairs _ _ c.sort_unstable.ensures.permutation c.sort_unstable.ensures.sorted
    ∙ ap (in_order trace_pair_cmp)
    (c.in_ok-pairs.ensures.pairs
    ∙ ap (λ (l : List SurveyCell). sharing (map standing_in l)) c.deref.ensures.value
    ∙ ap sharing placed
    ∙ c.in_ok-keep_crowded.ensures.sharing
    ∙ ap (λ (l : List SurveyCell). sharing (in_order placed_cmp (map standing_in l))) kept)
