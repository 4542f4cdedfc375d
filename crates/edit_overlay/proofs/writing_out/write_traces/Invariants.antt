use Rattle.std.proofs.Common.{◌≡◌, ◌+◌, ◌-◌, ◌≤◌, length, take}
use Rattle.std.specs.List.{concat}
use Rattle.base_file.specs.HeldBytes.{IsSure}
use Rattle.trace_store.specs.Reread.{IsReread}
use Rattle.edit_overlay.specs.Saving.{progress}
use Rattle.trace_store.specs.Stores.{traces_of}
use Rattle.edit_overlay.proofs.SavingLemmas.{Comes}
use Rattle.edit_overlay.proofs.writing_out.write_traces.Given as goal

-- the save has come to the traces that are passed, if the loaded bytes are sure
abbrev pub invariant-loop-at : goal.invariant-loop-at
invariant-loop-at g l = record {
  same : IsReread l.initial.store l.store;
  failures : l.writer.failures ≡ l.initial.writer.failures;
  inside : l.waiting.to ≤ length l.initial.store.loaded.bytes;
  count : l.waiting.written + (l.waiting.to - l.waiting.from) ≡ l.initial.waiting.written + (l.initial.waiting.to - l.initial.waiting.from) + length (concat (take l.at (traces_of l.initial.store)));
  comes : IsSure l.store.loaded.standing → Comes (g.W.Write.contents l.initial.writer.inner) (g.W.Write.contents l.writer.inner) (progress l.initial.store.loaded.bytes l.initial.waiting) (progress l.initial.store.loaded.bytes l.waiting) (concat (take l.at (traces_of l.initial.store)));
}
