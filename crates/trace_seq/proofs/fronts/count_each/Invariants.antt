use Rattle.std.proofs.Common.{◌≡◌, ℕ, ◌*◌, ◌<◌, length}
use Rattle.std.specs.Prelude.{slice_index}
use Rattle.trace_seq.specs.Fronts.{front}
use Rattle.trace_seq.proofs.fronts.count_each.Given as goal

abbrev pub invariant-loop-k : goal.invariant-loop-k
invariant-loop-k l = record {
  ids : l.ids ≡ front l.chunks l.k;
  same_length : length l.fronts ≡ length l.fn.fronts;
  noted : (j : ℕ) → j < length l.fronts → 16 * j < l.k → slice_index l.fronts j ≡ front l.chunks (16 * j);
}
