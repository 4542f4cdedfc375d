use Rattle.survey_cells.proofs.LatelyLemmas.{none_counted}
use Rattle.survey_cells.proofs.times.places_for_differences.Goals as goal

pub returns : goal.returns
returns c = λ q. none_counted 64 (record { x = c.whole-none.result; y = c.whole-none.result }) q
