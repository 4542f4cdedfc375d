use Rattle.trace_seq.proofs.PositionLemmas.{standing_id_is_held}
use Rattle.trace_seq.proofs.laws.standing_id_is_held.Goals as goal

pub returns : goal.returns
returns c = standing_id_is_held
