use Rattle.trace_seq.proofs.PositionLemmas.{held_id_stands}
use Rattle.trace_seq.proofs.laws.held_id_stands.Goals as goal

pub returns : goal.returns
returns c = held_id_stands
