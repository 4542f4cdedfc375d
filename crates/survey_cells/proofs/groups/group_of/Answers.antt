use Rattle.std.proofs.Common.{rules}
use Rattle.survey_cells.specs.Groups.{spread_in}
use Rattle.survey_cells.proofs.groups.group_of.Goals as goal

pub returns : goal.returns
unfolding spread_in
returns c = search rules
