use Rattle.time_slice.proofs.CacheLemmas.{rows_come_back}
use Rattle.time_slice.proofs.laws.rows_come_back.Goals as goal

pub returns : goal.returns
returns c = rows_come_back
