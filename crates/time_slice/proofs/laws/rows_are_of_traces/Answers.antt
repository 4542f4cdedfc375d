use Rattle.time_slice.proofs.PassLemmas.{rows_are_of_traces}
use Rattle.time_slice.proofs.laws.rows_are_of_traces.Goals as goal

pub returns : goal.returns
returns c = rows_are_of_traces
