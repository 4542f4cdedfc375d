use Rattle.std.proofs.Common.{◌-◌, ◌<◌, ◌≤◌, length}
use Rattle.std.specs.Prelude.{slice_index}
use Rattle.trace_seq.proofs.fronts.find_group.Given as goal

abbrev pub invariant-halves : goal.invariant-halves
invariant-halves l = record {
  end : l.end ≤ length l.fronts;
  within : 0 < l.number → l.number < l.end;
  some : 0 < length l.fronts → l.number < l.end;
  before : 0 < l.number → slice_index l.fronts l.number ≤ l.place;
  behind : l.end < length l.fronts → l.place < slice_index l.fronts l.end;
}

abbrev pub decreases-halves : goal.decreases-halves
decreases-halves l = l.end - l.number
