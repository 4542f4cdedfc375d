use Rattle.survey_cells.proofs.GroupLemmas.{word_is}
use Rattle.survey_cells.proofs.groups.word_of.Goals as goal

pub returns : goal.returns
returns c = word_is c.args.coordinate.bits
