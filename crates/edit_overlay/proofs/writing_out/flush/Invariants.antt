use Rattle.std.proofs.Common.{◌≡◌, ◌+◌, ◌-◌, []}
use Rattle.base_file.specs.HeldBytes.{IsSure}
use Rattle.trace_store.specs.Reread.{IsReread}
use Rattle.edit_overlay.specs.Saving.{progress}
use Rattle.edit_overlay.proofs.SavingLemmas.{Comes}
use Rattle.edit_overlay.proofs.writing_out.flush.Given as goal

-- the writer took the first of what waits, if the loaded bytes are sure
abbrev pub invariant-pieces : goal.invariant-pieces
invariant-pieces g l = record {
  same : IsReread l.initial.store l.store;
  failures : l.writer.failures ≡ l.initial.writer.failures;
  to : l.waiting.to ≡ l.initial.waiting.to;
  count : l.waiting.written + (l.waiting.to - l.waiting.from) ≡ l.initial.waiting.written + (l.initial.waiting.to - l.initial.waiting.from);
  comes : IsSure l.store.loaded.standing → Comes (g.W.Write.contents l.initial.writer.inner) (g.W.Write.contents l.writer.inner) (progress l.initial.store.loaded.bytes l.initial.waiting) (progress l.initial.store.loaded.bytes l.waiting) [];
}

abbrev pub decreases-pieces : goal.decreases-pieces
decreases-pieces g l = l.waiting.to - l.waiting.from
