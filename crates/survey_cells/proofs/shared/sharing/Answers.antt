use Rattle.std.specs.Prelude.{◌≡◌, ◌+◌, [], ◌∷◌, ◌++◌, drop, map}
use Rattle.std.proofs.Common.{arith, sym, ap, ◌∙◌, List, append_assoc, cond}
use Rattle.std.proofs.lemmas.List.{drop_more}
use Rattle.cell_positions.specs.declared.shared.PlacedCell.{PlacedCell}
use Rattle.cell_positions.specs.declared.trace_pair.TracePair.{TracePair}
use Rattle.cell_positions.specs.Shared.{at_one_position, sharing, sharing_behind}
use Rattle.survey_cells.specs.declared.cells.SurveyCell.{SurveyCell}
use Rattle.survey_cells.specs.Standing.{standing_in}
use Rattle.survey_cells.proofs.shared.sharing.Goals as goal
use Rattle.survey_cells.proofs.shared.sharing.Goals.{then-at_one_position+in_ok-told_back, else-at_one_position}

pub loop-cell-preserved : goal.loop-cell-preserved
loop-cell-preserved c =
    let others : List SurveyCell = c.in-Some.others.now in
    let i = c.loop-cell.cell-index in
    let last : PlacedCell = standing_in c.loop-cell.last in
    let this : PlacedCell = standing_in c.cell-item.result in
    let behind : List PlacedCell = map standing_in (drop (i + 1) others) in
    let before : List TracePair = c.loop-cell.pairs.items in
    let pair : TracePair = record { later = this.trace; earlier = last.trace } in
    let item : map standing_in (drop i others) ≡ this ∷ behind
    = ap (λ (l : List SurveyCell). map standing_in l) (drop_more others i c.cell-item.result c.loop-cell-test.true) ∙ ap (λ (k : SurveyCell). standing_in k ∷ behind) (sym c.cell-item.is) in
    let all : before ++ cond (at_one_position last this) (pair ∷ sharing_behind last behind) (sharing_behind this behind) ≡ sharing (map standing_in c.args.cells.now)
    = ap (λ (l : List PlacedCell). before ++ sharing_behind last l) (sym item) ∙ c.loop-cell.invariant.0 in
    elim c.if-at_one_position.branch [
      | then-at_one_position+in_ok-told_back w ↦ (
        ap (λ (l : List TracePair). l ++ sharing_behind (standing_in c.if-at_one_position.last) behind) (ap (λ v. v.items) w.pairs-is ∙ (rw w.in_ok-told_back.ensures.ok at w.push.ensures.items))
            ∙ ap (λ (k : SurveyCell). (before ++ pair ∷ []) ++ sharing_behind (standing_in k) behind) w.last-is
            ∙ append_assoc before (pair ∷ []) (sharing_behind last behind)
            ∙ ap (λ b. before ++ cond b (pair ∷ sharing_behind last behind) (sharing_behind this behind)) (sym (sym c.at_one_position.ensures ∙ w.if-at_one_position.true))
            ∙ all,
        rw w.room-is (grind (arith, c.loop-cell.invariant.1, w.in_ok-told_back.ensures.rises.never_falls)),
      )
      | else-at_one_position w ↦ (
        ap (λ (l : List TracePair). l ++ sharing_behind (standing_in c.if-at_one_position.last) behind) (ap (λ v. v.items) w.pairs-is)
            ∙ ap (λ (k : SurveyCell). before ++ sharing_behind (standing_in k) behind) w.last-is
            ∙ ap (λ b. before ++ cond b (pair ∷ sharing_behind last behind) (sharing_behind this behind)) (sym (sym c.at_one_position.ensures ∙ w.if-at_one_position.false))
            ∙ all,
        rw w.room-is c.loop-cell.invariant.1,
      )
    ]
