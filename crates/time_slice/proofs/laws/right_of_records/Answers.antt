use Rattle.time_slice.proofs.CacheLemmas.{right_of_records}
use Rattle.time_slice.proofs.laws.right_of_records.Goals as goal

pub returns : goal.returns
returns c = right_of_records
