use Rattle.std.proofs.Common.{◌≡◌, ◌+◌, ◌++◌, List, ℕ, [], length}
use Rattle.trace_view.specs.Shown.{bytes_of}
use Rattle.edit_overlay.proofs.SavingLemmas.{Comes}
use Rattle.edit_overlay.proofs.writing_out.write_view.Given as goal

-- the writer took the pieces that are passed
abbrev pub invariant-loop-piece : goal.invariant-loop-piece
invariant-loop-piece g l = record {
  failures : l.writer.failures ≡ l.initial.writer.failures;
  count : l.written + length l.piece-iterator ≡ l.initial.written + length (bytes_of l.view);
  passed : List ℕ;
  joined : passed ++ l.piece-iterator ≡ bytes_of l.view;
  comes : Comes (g.W.Write.contents l.initial.writer.inner) (g.W.Write.contents l.writer.inner) (record { written = l.initial.written; waits = [] }) (record { written = l.written; waits = [] }) passed;
}
