use Rattle.command_line.proofs.LimitTextLemmas.{no_limit}
use Rattle.command_line.proofs.parsing.number.Goals as goal

pub returns-in-Ok-None-clause-text : goal.returns-in-Ok-None-clause-text
returns-in-Ok-None-clause-text c = no_limit _ (rw c.in-Ok-None.field-0-is at c.in-Ok-None.ensures.value)
