use Rattle.std.proofs.Common.{rules}
use Rattle.std.proofs.lemmas.List.Sorted.{answers_always}
use Rattle.survey_cells.specs.declared.cells.SurveyCell.{SurveyCell}
use Rattle.survey_cells.proofs.FindLemmas.{searched}
use Rattle.survey_cells.proofs.pairs.find_place.Goals as goal

pub returns : goal.returns
returns c =
    let facts = c.binary_search_by_key.ensures in
    let by_key = facts.position (λ (d : SurveyCell). (d.inline, d.crossline)) (answers_always _ _ _ (λ f a r g called. search rules)) in
    searched c.args.place.now.0 c.args.place.now.1 c.args.cells.now c.requires c.binary_search_by_key.result facts.bound by_key
