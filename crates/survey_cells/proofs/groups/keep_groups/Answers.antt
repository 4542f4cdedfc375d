use Rattle.std.specs.Prelude.{map}
use Rattle.std.proofs.Common.{rules, sym, ap, ◌∙◌, subst, ℕ, List}
use Rattle.std.proofs.lemmas.Fn.{filter_same}
use Rattle.cell_positions.specs.declared.shared.PlacedCell.{PlacedCell}
use Rattle.cell_positions.specs.InOrder.{in_order}
use Rattle.cell_positions.specs.Shared.{placed_cmp, sharing}
use Rattle.survey_cells.specs.declared.cells.SurveyCell.{SurveyCell}
use Rattle.survey_cells.specs.Groups.{IsCountedBy, is_crowded}
use Rattle.survey_cells.specs.Standing.{standing_in}
use Rattle.survey_cells.proofs.GroupLemmas.{crowded_share, filter-made}
use Rattle.survey_cells.proofs.groups.keep_groups.Goals as goal

pub returns-clause-sharing : goal.returns-clause-sharing
returns-clause-sharing c =
    let groups = c.groups_for-groups.result in
    let sizes = c.as_slice-sizes.result.now in
    let all : List SurveyCell = c.args.cells.now.items in
    let kept = filter_same _ (λ (d : SurveyCell). is_crowded groups sizes (standing_in d)) _ (λ x b f called. search rules) _ _ c.retain.ensures.filtered in
    let of_all = subst (λ (l : List SurveyCell). IsCountedBy groups (map standing_in l) c.in_ok-counted.counted.items) c.deref.ensures.value c.in_ok-counted.ensures.counted in
    let counted : IsCountedBy groups (map standing_in all) sizes = subst (λ (s : List ℕ). IsCountedBy groups (map standing_in all) s) (sym c.as_slice-sizes.ensures.value) of_all in
    ap (λ (l : List SurveyCell). sharing (in_order placed_cmp (map standing_in l))) kept
    ∙ ap (λ (l : List PlacedCell). sharing (in_order placed_cmp l)) (filter-made standing_in (is_crowded groups sizes) all)
    ∙ crowded_share groups sizes (map standing_in all) counted
