use Rattle.trace_record.specs.Packable.{each_fits}
use Rattle.survey_cells.proofs.cells.SurveyCell.of.Goals as goal

pub of-requires : goal.of-requires
of-requires c = (each_fits _ _ _ _ c.args.record.now.small).1

pub of-requires-2 : goal.of-requires-2
of-requires-2 c = (each_fits _ _ _ _ c.args.record.now.small).2
