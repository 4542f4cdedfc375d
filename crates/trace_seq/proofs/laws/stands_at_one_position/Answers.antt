use Rattle.trace_seq.proofs.PositionLemmas.{stands_at_one_position}
use Rattle.trace_seq.proofs.laws.stands_at_one_position.Goals as goal

pub returns : goal.returns
returns c = stands_at_one_position
