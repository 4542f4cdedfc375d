use Rattle.std.specs.Prelude.{◌≡◌, map}
use Rattle.std.proofs.Common.{rules, sym, ap, ◌∙◌, subst, List}
use Rattle.std.specs.List.{dedup}
use Rattle.std.proofs.lemmas.Fn.{dedup_same}
use Rattle.std.proofs.lemmas.List.Filters.{All-dedup}
use Rattle.std.proofs.lemmas.List.Sorted.{All-permutation, answers_always}
use Rattle.trace_record.specs.Facts.{Facts, facts_of}
use Rattle.cell_positions.specs.InOrder.{in_order}
use Rattle.cell_positions.specs.Cells.{cell_cmp, is_same, cells_of}
use Rattle.cell_positions.specs.Placed.{position_at, positions_of}
use Rattle.survey_cells.specs.declared.cells.SurveyCell.{SurveyCell}
use Rattle.survey_cells.specs.Held.{cell_in, place_in, HeldRise, StandWhere}
use Rattle.survey_cells.proofs.CellLemmas.{dedup-held, firsts_rise, is_same_held, sorted_held}
use Rattle.survey_cells.proofs.StandLemmas.{each_stands}
use Rattle.survey_cells.proofs.cells.find_cells.Goals as goal

pub returns-clause-cells : goal.returns-clause-cells
unfolding cells_of
returns-clause-cells c =
    let fs : List Facts = map facts_of c.args.records.now in
    let all : List SurveyCell = c.in_ok-traces.traces.items in
    let sorted : List SurveyCell = c.sort_unstable_by_key.new.self.items in
    let by_key = c.sort_unstable_by_key.ensures.sorted (λ (d : SurveyCell). (d.inline, (d.crossline, d.trace))) (answers_always _ _ _ (λ f a r g called. search rules)) in
    let same = c.sort_unstable_by_key.ensures.permutation in
    let kept = dedup_same _ is_same_held _ (λ x y b f' x' y' k. search rules) _ _ c.dedup_by_key.ensures.filtered in
    let stand = All-permutation (λ (d : SurveyCell). place_in d ≡ position_at (positions_of fs) d.trace) all sorted same (each_stands fs all c.in_ok-traces.ensures.cells c.in_ok-traces.ensures.places) in (
      ap (map cell_in) kept ∙ dedup-held sorted ∙ ap (dedup is_same) (sorted_held all sorted same by_key ∙ ap (in_order cell_cmp) c.in_ok-traces.ensures.cells),
      subst (λ (l : List SurveyCell). StandWhere (positions_of fs) l) (sym kept) (All-dedup is_same_held (λ (d : SurveyCell). place_in d ≡ position_at (positions_of fs) d.trace) sorted stand),
    )

pub returns-clause-rise : goal.returns-clause-rise
returns-clause-rise c =
    let by_key = c.sort_unstable_by_key.ensures.sorted (λ (d : SurveyCell). (d.inline, (d.crossline, d.trace))) (answers_always _ _ _ (λ f a r g called. search rules)) in
    let kept = dedup_same _ is_same_held _ (λ x y b f' x' y' k. search rules) _ _ c.dedup_by_key.ensures.filtered in
    subst (λ (l : List SurveyCell). HeldRise l) (sym kept) (firsts_rise _ by_key)
