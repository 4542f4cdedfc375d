use Rattle.time_slice.proofs.SliceLemmas.{IsSlice-slice_rows}
use Rattle.time_slice.proofs.laws.slice_is_slice.Goals as goal

pub returns : goal.returns
returns c = IsSlice-slice_rows
