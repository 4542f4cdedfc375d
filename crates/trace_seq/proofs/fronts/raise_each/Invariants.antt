use Rattle.std.proofs.Common.{◌≡◌, ℕ, ◌+◌, ◌<◌, ◌≤◌, length}
use Rattle.std.specs.Prelude.{slice_index}
use Rattle.trace_seq.proofs.fronts.raise_each.Given as goal

abbrev pub invariant-loop-g : goal.invariant-loop-g
invariant-loop-g l = record {
  same_length : length l.fronts ≡ length l.fn.fronts;
  below : (j : ℕ) → j < l.from → slice_index l.fronts j ≡ slice_index l.fn.fronts j;
  changed : (j : ℕ) → l.from ≤ j → j < l.g → j < length l.fn.fronts → slice_index l.fronts j ≡ slice_index l.fn.fronts j + 1;
  behind : (j : ℕ) → l.g ≤ j → slice_index l.fronts j ≡ slice_index l.fn.fronts j;
}
